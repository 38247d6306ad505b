-- Six numbers, one a face: how far they can grow, and loops over the six faces.
use mathlib.Core.List.{List}
use mathlib.Core.Path.{◌≡◌, refl, ◌∙◌}
use Prim.Native.Nat.{ℕ, suc, ◌+◌, ◌≤◌, ◌<◌}
use native.Mathlib.Omega.{arith}
use lib.ListN.{length, get_or, set, length-set, replicate, get_or-replicate}
use lib.Seq.{get_or-set_same, get_or-set_other, set-get_or}
use borrow.Author.Count.{below_more}
use Rattle.simple.specs.Ready.{most_listed, Room}
use Rattle.simple.specs.Count.{Counted}
use Rattle.simple.specs.Kernel.{start_of}

-- Six numbers that can grow by so many can by fewer.
pub room_less : {numbers : List ℕ} {m n : ℕ} → Room numbers n → m ≤ n → Room numbers m
room_less room h = record { all = room.all; each = λ f l. omega (arith, room.each f l) }

-- Numbers that start from zero can grow,
pub zeros_room : {most : ℕ} → most ≤ most_listed → Room (replicate 6 0) most
zeros_room h = record { all = refl; each = λ f l. omega (arith, get_or-replicate {A = ℕ} 6 f 0 0 l) }

-- and count what was added.
pub counted_zeros : {now : List ℕ} {more : ℕ → ℕ} → Counted (replicate 6 0) now more → (f : ℕ) → f < 6 → get_or now f 0 ≡ more f
counted_zeros counted f h = omega (arith, counted.each f h, get_or-replicate {A = ℕ} 6 f 0 0 h)

-- Where nothing is added they stay.
pub counted_none : {was : List ℕ} (more : ℕ → ℕ) → length was ≡ 6 → ((f : ℕ) → more f ≡ 0) → Counted was was more
counted_none more e none = record { each = λ f h. omega (arith, none f); all = e }

-- What is added may be said in two ways.
pub counted_same : {was now : List ℕ} {more more' : ℕ → ℕ} → Counted was now more → ((f : ℕ) → more f ≡ more' f) → Counted was now more'
counted_same counted same = record { each = λ f h. omega (arith, counted.each f h, same f); all = counted.all }

-- The next run begins where the one before it ends.
pub start_next : (counts : List ℕ) (f n : ℕ) → n ≡ start_of counts f → n + get_or counts f 0 ≡ start_of counts (f + 1)
unfolding start_of
start_next counts f n e = let next : f + 1 ≡ suc f = omega arith in rw (next, e)

-- ---- loops over the six faces

-- A list filled from its start: after one more is set, all so far are what they should be.
pub filled_next : {A : Type 0} (none : A) (Is : ℕ → A → Type 0) (l : List A) (f : ℕ) (x : A) → f < length l → Is f x → ((g : ℕ) → g < f → Is g (get_or l g none)) → (g : ℕ) → g < f + 1 → Is g (get_or (set l f x) g none)
filled_next none Is l f x h is before =
    below_more (λ (g : ℕ). Is g (get_or (set l f x) g none)) f (λ g below. rw (get_or-set_other l f g x none (λ e. omega arith)) (before g below)) (rw (get_or-set_same l f x none h) is)

-- Numbers that grow, f faces done: each so far grew by what `more` says of its face, and the others are as they were.
pub record Growing (was now : List ℕ) (more : ℕ → ℕ) (f : ℕ) : Type 0 where
  pub all : length now ≡ 6
  pub grown : (g : ℕ) → g < f → get_or now g 0 ≡ get_or was g 0 + more g
  pub left : (g : ℕ) → f ≤ g → get_or now g 0 ≡ get_or was g 0

module _ {was : List ℕ} {more : ℕ → ℕ} where
  -- It starts.
  pub growing_start : length was ≡ 6 → Growing was was more 0
  growing_start e = record { all = e; grown = λ g h. absurd (omega arith); left = λ g h. refl }

  module _ {now : List ℕ} {f : ℕ} (l : Growing was now more f) where
    -- It goes on where the number at hand grows,
    pub growing_on : f < 6 → {r : ℕ} → r ≡ get_or now f 0 + more f → Growing was (set now f r) more (f + 1)
    growing_on h {r} is =
        record {
          all = length-set now f r ∙ l.all;
          grown = filled_next 0 (λ (g n : ℕ). n ≡ get_or was g 0 + more g) now f r (omega (arith, l.all)) (omega (arith, is, l.left f (omega arith))) l.grown;
          left = λ g above. get_or-set_other now f g r 0 (λ e. omega arith) ∙ l.left g (omega arith);
        }

    -- or stays where nothing is added.
    pub growing_still : f < 6 → more f ≡ 0 → Growing was now more (f + 1)
    growing_still h none = rw (set-get_or now f 0) at (growing_on h {r = get_or now f 0} (omega (arith, none)))
