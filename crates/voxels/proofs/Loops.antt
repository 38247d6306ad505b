-- Loops: where one stands, and the laws of the one fold `looped`, whatever it joins. Lists end to end, sums, and what is done to a state are its instances.
use Rattle.std.proofs.Common.{◌≡◌, ℕ, zero, suc, ◌+◌, ◌-◌, ◌*◌, ◌<◌, ◌≤◌, List, [], ◌++◌, length, sym, refl, ap, ◌∙◌, append_assoc, append-nil, not-suc-le-zero, add-zero, add_assoc, add-le-add, mul-le-mul_right, suc-mul, add-mul, suc-add, one-mul, zero-add, zero-mul, arith, length-append}
use native.Mathlib.Nat.{sub-zero}
use Rattle.voxels.specs.Loop.{looped, step_by, Stand, stand, on_by, and_next, steps}

-- ---- where a loop stands

-- With k of n done, one more is due,
pub more : (k n : ℕ) → k < n → n - k ≡ suc (n - (k + 1))
more k n h = omega arith

-- or none.
pub done : (k n : ℕ) → n ≤ k → n - k ≡ zero
done k n h = omega arith

-- k strides and one are k + 1,
pub stride_more : (k d : ℕ) → k * d + d ≡ (k + 1) * d
stride_more k d = omega (arith, add-mul k 1 d, one-mul d)

-- and no more than n where k is below n.
pub stride_fits : (k n d : ℕ) → k < n → k * d + d ≤ n * d
stride_fits k n d h = omega (arith, stride_more k d, mul-le-mul_right {m = k + 1} {n = n} d (omega arith))

-- A loop, k of n done: from the index i on it stands k strides further, at j.
pub record Underway (d i n k j : ℕ) : Type 0 where
  pub within : k ≤ n
  pub place : j ≡ i + k * d

module _ {d i n : ℕ} where
  -- It starts,
  pub underway_start : Underway d i n 0 i
  underway_start = record { within = omega arith; place = omega (arith, zero-mul d) }

  module _ {k j : ℕ} (l : Underway d i n k j) where
    -- goes on,
    pub underway_on : k < n → Underway d i n (k + 1) (j + d)
    underway_on h = record { within = omega arith; place = omega (arith, l.place, stride_more k d) }

    -- and ends.
    pub underway_done : n ≤ k → k ≡ n
    underway_done h = omega (arith, l.within)

    -- Its index fits where the one at its end does,
    pub index_fits : {all : ℕ} → i + n * d ≤ all → j ≤ all
    index_fits fits = omega (arith, l.place, mul-le-mul_right {m = k} {n = n} d l.within)

    -- and so does the next index, while there is one.
    pub next_fits : k < n → {all : ℕ} → i + n * d ≤ all → j + d ≤ all
    next_fits h fits = omega (arith, l.place, stride_fits k n d h)

-- The place that is k steps on from p.
unfoldable pub onward : {P : Type 0} → (P → P) → P → ℕ → P
onward next p zero = p
onward next p (suc k) = onward next (next p) k

-- It is k strides on where each step is a stride,
pub onward_by : (d i k : ℕ) → onward (step_by d) i k ≡ i + k * d
unfolding onward
onward_by d i zero = omega (arith, zero-mul d)
onward_by d i (suc k) = onward_by d (i + d) k ∙ omega (arith, suc-mul k d)

-- and with a coordinate beside the index that is k further.
pub onward_both : (d a i k : ℕ) → onward (on_by d) (stand a i) k ≡ stand (a + k) (i + k * d)
unfolding onward
onward_both d a i zero = rw (zero-mul, add-zero, add-zero)
onward_both d a i (suc k) =
    let x : a + 1 + k ≡ a + suc k = omega arith in
    let y : i + d + k * d ≡ i + suc k * d = omega (arith, suc-mul k d) in
    rw (← x, ← y) (onward_both d (a + 1) (i + d) k)

-- ---- what is left of a loop, k of n done

module _ {P B : Type 0} (none : B) (join : B → B → B) (next : P → P) (g : P → B) (p : P) where
  -- At its start all is left,
  pub loop_start : (n : ℕ) → looped none join next g p (n - 0) ≡ looped none join next g p n
  loop_start n = rw sub-zero

  -- then what is made next and the rest,
  pub loop_next : (k n : ℕ) → k < n → looped none join next g p (n - k) ≡ join (g p) (looped none join next g (next p) (n - (k + 1)))
  unfolding looped
  loop_next k n h = rw (more k n h)

  -- and at its end nothing.
  pub loop_none : (k n : ℕ) → n ≤ k → looped none join next g p (n - k) ≡ none
  unfolding looped
  loop_none k n h = rw (done k n h)

-- The same with a coordinate a, which is a + k by then.
module _ {B : Type 0} (none : B) (join : B → B → B) (d : ℕ) (g : Stand → B) (a j : ℕ) where
  -- All is left,
  pub both_start : (n : ℕ) → looped none join (on_by d) g (stand (a + 0) j) (n - 0) ≡ looped none join (on_by d) g (stand a j) n
  both_start n = rw (sub-zero, add-zero)

  -- then what is made next and the rest.
  pub both_next : (k n : ℕ) → k < n → looped none join (on_by d) g (stand (a + k) j) (n - k) ≡ join (g (stand (a + k) j)) (looped none join (on_by d) g (stand (a + (k + 1)) (j + d)) (n - (k + 1)))
  both_next k n h = rw (← add_assoc a k 1) (loop_next none join (on_by d) g (stand (a + k) j) k n h)

-- ---- two loops hand in hand

-- What holds where neither has made anything, is kept where both join, and holds of what both make at each place, holds of the loops.
module _ {P Q B C : Type 0} {none : B} {join : B → B → B} {none' : C} {join' : C → C → C} (Agree : B → C → Type 0) (start : Agree none none')
    (joins : (x y : B) (x' y' : C) → Agree x x' → Agree y y' → Agree (join x y) (join' x' y')) (next : P → P) (g : P → B) (next' : Q → Q) (h : Q → C) where
  pub loops_agree : (n : ℕ) (p : P) (q : Q) → ((k : ℕ) → k < n → Agree (g (onward next p k)) (h (onward next' q k))) → Agree (looped none join next g p n) (looped none' join' next' h q n)
  unfolding looped onward
  loops_agree zero p q each = start
  loops_agree (suc n) p q each = joins _ _ _ _ (each 0 (omega arith)) (loops_agree n (next p) (next' q) (λ k l. each (suc k) (omega arith)))

-- So what carries one join to another carries loops,
pub loop_carried : {P Q B C : Type 0} {none : B} {join : B → B → B} {none' : C} (join' : C → C → C) (φ : B → C) → φ none ≡ none' → ((x y : B) → φ (join x y) ≡ join' (φ x) (φ y))
    → (next : P → P) (g : P → B) (next' : Q → Q) (h : Q → C) (n : ℕ) (p : P) (q : Q) → ((k : ℕ) → k < n → φ (g (onward next p k)) ≡ h (onward next' q k))
    → φ (looped none join next g p n) ≡ looped none' join' next' h q n
loop_carried join' φ start joins = loops_agree (λ x y. φ x ≡ y) start (λ x y x' y' first rest. rw (joins x y, first, rest))

-- two loops that make the same at each place are the same,
pub loops_same : {P Q B : Type 0} (none : B) (join : B → B → B) (next : P → P) (g : P → B) (next' : Q → Q) (h : Q → B) (n : ℕ) (p : P) (q : Q)
    → ((k : ℕ) → k < n → g (onward next p k) ≡ h (onward next' q k)) → looped none join next g p n ≡ looped none join next' h q n
loops_same none join = loop_carried join (λ x. x) refl (λ x y. refl)

-- and what holds of nothing, of what is made at each place, and of what is joined, holds of the loop.
pub loop_keeps : {P B : Type 0} {none : B} {join : B → B → B} (K : B → Type 0) → K none → ((x y : B) → K x → K y → K (join x y)) → (next : P → P) (g : P → B) (n : ℕ) (p : P)
    → ((k : ℕ) → k < n → K (g (onward next p k))) → K (looped none join next g p n)
loop_keeps {none = none} {join = join} K start joins next g n p each = loops_agree {none' = none} {join' = join} (λ x y. K x) start (λ x y x' y'. joins x y) next g next g n p p each

-- What holds of each part wherever it holds of both joined, and holds of a loop, holds of what is made at each place.
pub loop_gives : {P B : Type 0} (none : B) {join : B → B → B} (K : B → Type 0) → ((x y : B) → K (join x y) → K x × K y) → (next : P → P) (g : P → B) (n : ℕ) (p : P)
    → K (looped none join next g p n) → (k : ℕ) → k < n → K (g (onward next p k))
unfolding looped onward
loop_gives none K parts next g zero p all k l = absurd (not-suc-le-zero l)
loop_gives none K parts next g (suc n) p all zero l = (parts _ _ all).0
loop_gives none K parts next g (suc n) p all (suc k) l = loop_gives none K parts next g n (next p) (parts _ _ all).1 k (omega arith)

-- ---- a loop in two parts

-- Nothing, joined with a value on either side, leaves it, and of three it is the same which two are joined first.
pub record Joins {B : Type 0} (none : B) (join : B → B → B) : Type 0 where
  pub left : (x : B) → join none x ≡ x
  pub right : (x : B) → join x none ≡ x
  pub assoc : (x y z : B) → join (join x y) z ≡ join x (join y z)

-- So of lists end to end, sums, and things done to a state.
pub lists_join : {A : Type 0} → Joins {B = List A} [] ◌++◌
lists_join = record { left = λ x. refl; right = append-nil; assoc = append_assoc }

pub sums_join : Joins 0 ◌+◌
sums_join = record { left = zero-add; right = add-zero; assoc = add_assoc }

module _ {P B : Type 0} {none : B} {join : B → B → B} (joins : Joins none join) (next : P → P) (g : P → B) where
  -- A loop is its first so many, joined with the others,
  pub loop_parts : (m n : ℕ) (p : P) → looped none join next g p (m + n) ≡ join (looped none join next g p m) (looped none join next g (onward next p m) n)
  unfolding looped onward
  loop_parts zero n p = rw (zero-add, joins.left)
  loop_parts (suc m) n p = rw (suc-add m n, loop_parts m n (next p), joins.assoc)

  -- and a loop of one more is joined with what is made there.
  pub loop_more : (k : ℕ) (p : P) → looped none join next g p (k + 1) ≡ join (looped none join next g p k) (g (onward next p k))
  unfolding looped
  loop_more k p = rw (loop_parts k 1 p, joins.right)

-- The same of a loop by a stride, k of n done.
module _ {B : Type 0} {none : B} {join : B → B → B} (joins : Joins none join) (g : ℕ → B) {d i n k j : ℕ} (l : Underway d i n k j) where
  -- What is made so far and what is left make the whole,
  pub underway_whole : join (looped none join (step_by d) g i k) (looped none join (step_by d) g j (n - k)) ≡ looped none join (step_by d) g i n
  underway_whole =
      let all : k + (n - k) ≡ n = omega (arith, l.within) in
      rw (l.place, ← onward_by d i k) (sym (rw all at (loop_parts joins (step_by d) g k (n - k) i)))

  -- and one more is joined with what is made here.
  pub underway_more : looped none join (step_by d) g i (k + 1) ≡ join (looped none join (step_by d) g i k) (g j)
  underway_more = rw (l.place, ← onward_by d i k) (loop_more joins (step_by d) g k i)

-- ---- lists

-- Lists end to end are as long as each is, summed.
pub loop_length : {P Q A : Type 0} (next : P → P) (g : P → List A) (next' : Q → Q) (h : Q → ℕ) (n : ℕ) (p : P) (q : Q)
    → ((k : ℕ) → k < n → length (g (onward next p k)) ≡ h (onward next' q k)) → length (looped [] ◌++◌ next g p n) ≡ looped 0 ◌+◌ next' h q n
loop_length = loop_carried ◌+◌ length refl length-append

-- ---- sums

module _ {P : Type 0} (next : P → P) where
  -- A number so many times is a product,
  pub sum_constant : (m n : ℕ) (p : P) → looped 0 ◌+◌ next (λ (q : P). m) p n ≡ n * m
  unfolding looped
  sum_constant m zero p = omega arith
  sum_constant m (suc n) p = omega (arith, sum_constant m n (next p), suc-mul n m)

  -- and a sum of numbers that are at most so much is at most that.
  pub sum_at_most : (g : P → ℕ) (most n : ℕ) (p : P) → ((p : P) → g p ≤ most) → looped 0 ◌+◌ next g p n ≤ n * most
  sum_at_most g most n p few = rw (← sum_constant most n p) (loops_agree (λ x y. x ≤ y) (omega arith) (λ x y x' y' first rest. add-le-add first rest) next g next (λ (q : P). most) n p p (λ k l. few _))

-- ---- states

-- What holds of a state before something is done to it holds after it too.
abbrev Keeps : {S : Type 0} → (S → Type 0) → (S → S) → Type 0
Keeps {S} K f = (s : S) → K s → K (f s)

module _ {P S : Type 0} (next : P → P) (make : P → S → S) where
  -- What is kept at each place the loop keeps,
  states_keep : (K : S → Type 0) (n : ℕ) (p : P) → ((k : ℕ) → k < n → Keeps K (make (onward next p k))) → Keeps K (looped (λ (s : S). s) and_next next make p n)
  states_keep K n p keep = loop_keeps (Keeps K) (λ s holds. holds) (λ f g first rest s holds. rest _ (first s holds)) next make n p keep

  -- and what is made so at the m-th, and kept at each, is so after it.
  states_reach : (K L : S → Type 0) (n : ℕ) (p : P) → ((k : ℕ) → k < n → Keeps K (make (onward next p k))) → ((k : ℕ) → k < n → Keeps (λ (s : S). K s × L s) (make (onward next p k)))
      → (m : ℕ) → m < n → ((s : S) → K s → L (make (onward next p m) s)) → (s : S) → K s → L (looped (λ (s : S). s) and_next next make p n s)
  unfolding looped onward
  states_reach K L zero p keep both m h makes s holds = absurd (not-suc-le-zero h)
  states_reach K L (suc n) p keep both zero h makes s holds =
      (states_keep (λ (s : S). K s × L s) n (next p) (λ k l. both (suc k) (omega arith)) (make p s) (keep 0 (omega arith) s holds, makes s holds)).1
  states_reach K L (suc n) p keep both (suc m) h makes s holds =
      states_reach K L n (next p) (λ k l. keep (suc k) (omega arith)) (λ k l. both (suc k) (omega arith)) m (omega arith) makes (make p s) (keep 0 (omega arith) s holds)

-- Steps by a coordinate and an index, k of n done.
module _ {S : Type 0} (d : ℕ) (act : S → ℕ → ℕ → S) where
  abbrev here : Stand → S → S
  here p s = act s p.coordinate p.index

  -- All is left,
  pub steps_start : (s : S) (a i n : ℕ) → steps d act s (a + 0) i (n - 0) ≡ steps d act s a i n
  steps_start s a i n = ap (λ (f : S → S). f s) (both_start (λ (s : S). s) and_next d here a i n)

  -- a step is made, and the rest is left,
  pub steps_on : (s s' t : S) (a i k n : ℕ) → k < n → s' ≡ act s (a + k) i → steps d act s (a + k) i (n - k) ≡ t → steps d act s' (a + (k + 1)) (i + d) (n - (k + 1)) ≡ t
  steps_on s s' t a i k n h is e = rw is (sym (ap (λ (f : S → S). f s) (both_next (λ (s : S). s) and_next d here a i k n h)) ∙ e)

  -- or nothing is.
  pub steps_done : (s t : S) (a i k n : ℕ) → n ≤ k → steps d act s (a + k) i (n - k) ≡ t → s ≡ t
  steps_done s t a i k n h e = sym (ap (λ (f : S → S). f s) (loop_none (λ (s : S). s) and_next (on_by d) here (stand (a + k) i) k n h)) ∙ e

  -- What each step keeps the loop keeps,
  pub steps_keep : (K : S → Type 0) (n a i : ℕ) (s : S) → ((k : ℕ) (s : S) → k < n → K s → K (act s (a + k) (i + k * d))) → K s → K (steps d act s a i n)
  steps_keep K n a i s keep = states_keep (on_by d) here K n (stand a i) (λ k l. rw (onward_both d a i k) (λ s. keep k s l)) s

  -- and what the m-th makes so, and each keeps, is so after it.
  pub steps_reach : (K L : S → Type 0) (n a i : ℕ) (s : S)
      → ((k : ℕ) (s : S) → k < n → K s → K (act s (a + k) (i + k * d)))
      → ((k : ℕ) (s : S) → k < n → K s × L s → K (act s (a + k) (i + k * d)) × L (act s (a + k) (i + k * d)))
      → (m : ℕ) → m < n → ((s : S) → K s → L (act s (a + m) (i + m * d))) → K s → L (steps d act s a i n)
  steps_reach K L n a i s keep both m h makes =
      states_reach (on_by d) here K L n (stand a i) (λ k l. rw (onward_both d a i k) (λ s. keep k s l)) (λ k l. rw (onward_both d a i k) (λ s. both k s l)) m h (rw (onward_both d a i m) makes) s
