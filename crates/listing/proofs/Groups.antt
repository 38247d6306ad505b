-- Groups listed one after another, with their counts: what a loop over the faces has to show, in the form of its invariant. For any items and any groups.
use mathlib.Core.List.{List, [], ◌∷◌, ◌++◌, map, append-nil, append_assoc}
use mathlib.Core.Path.{◌≡◌, refl, sym, ◌∙◌, ap}
use Prim.Native.Nat.{ℕ, zero, suc, ◌+◌, ◌-◌, ◌≤◌, ◌<◌}
use native.Mathlib.Nat.{add-zero, suc-add, not-suc-le-zero}
use native.Mathlib.Omega.{arith}
use lib.ListN.{length, get_or, take, set, replicate}
use lib.Seq.{length-take-le, take_all}
use Rattle.geometry.specs.Refusal.{answer}
use Rattle.listing.specs.Listing.{joined, capacity, too_many, lay}
use Rattle.listing.specs.Pushed.{Output, output, pushed, pushed_all, MadeGroups}
use Rattle.listing.proofs.Pushed.{set_after, pushed_append, pushed_counts, all_laid}

-- One more of a list.
pub take_next : {A : Type 0} (l : List A) (k : ℕ) (d : A) → k < length l → take (k + 1) l ≡ take k l ++ (get_or l k d ∷ [])
take_next [] k d h = absurd (not-suc-le-zero h)
take_next (a ∷ l) zero d h = refl
take_next (a ∷ l) (suc k) d h = rw (suc-add k 1) (ap (λ (r : List _). a ∷ r) (take_next l k d (omega arith)))

pub map_one_more : {A B : Type 0} (f : A → B) (l : List A) (a : A) → map f (l ++ (a ∷ [])) ≡ map f l ++ (f a ∷ [])
map_one_more f [] a = refl
map_one_more f (x ∷ l) a = ap (λ (r : List _). f x ∷ r) (map_one_more f l a)

joined_one_more : {A : Type 0} (ls : List (List A)) (l : List A) → joined (ls ++ (l ∷ [])) ≡ joined ls ++ l
unfolding joined
joined_one_more [] l = append-nil l
joined_one_more (x ∷ ls) l = rw (joined_one_more ls l) (sym (append_assoc x (joined ls) l))

length_map_at : {A B : Type 0} (f : A → B) (l : List A) → length (map f l) ≡ length l
length_map_at f [] = refl
length_map_at f (a ∷ l) = ap suc (length_map_at f l)

-- All items that are listed are counted.
pub all_counted : {A : Type 0} (numbers : ℕ) (numbers_of : A → List ℕ) (s : Output) (l : List A) → (pushed_all numbers numbers_of s l).listed ≡ s.listed + length l
unfolding pushed_all
all_counted numbers numbers_of s [] = sym (add-zero s.listed)
all_counted numbers numbers_of s (a ∷ l) = omega (arith, all_counted numbers numbers_of (pushed numbers numbers_of s a) l, pushed_counts numbers numbers_of s a)

pub all_after : {A : Type 0} (numbers : ℕ) (numbers_of : A → List ℕ) (out out' : List ℕ) (n n' : ℕ) (l : List A)
    → output out' n' ≡ pushed_all numbers numbers_of (output out n) l → n' ≡ n + length l
all_after numbers numbers_of out out' n n' l e = ap (λ (o : Output). o.listed) e ∙ all_counted numbers numbers_of (output out n) l

module _ {F A : Type 0} (numbers : ℕ) (numbers_of : A → List ℕ) (group : F → List A) (fs : List F) (d : F) where
  -- After one more face, its group has been listed after those before,
  pub groups_next : (k : ℕ) (was : List ℕ) {s t : Output} → k < length fs
      → s ≡ pushed_all numbers numbers_of (output was 0) (joined (map group (take k fs)))
      → t ≡ pushed_all numbers numbers_of s (group (get_or fs k d))
      → t ≡ pushed_all numbers numbers_of (output was 0) (joined (map group (take (k + 1) fs)))
  groups_next k was h before now =
      rw (take_next fs k d h, map_one_more group (take k fs) (get_or fs k d), joined_one_more (map group (take k fs)) (group (get_or fs k d)), now, before)
      (sym (pushed_append numbers numbers_of (output was 0) (joined (map group (take k fs))) (group (get_or fs k d))))

  -- and its count stands after theirs.
  pub counts_next : (k n : ℕ) (counts : List ℕ) (c : ℕ) → length fs ≡ n → k < n → counts ≡ map length (map group (take k fs)) ++ replicate (n - k) 0 → c ≡ length (group (get_or fs k d))
      → set counts k c ≡ map length (map group (take (k + 1) fs)) ++ replicate (n - (k + 1)) 0
  counts_next k n counts c all h before is =
      let more : n - k ≡ suc (n - (k + 1)) = omega arith in
      let lens : List ℕ = map length (map group (take k fs)) in
      let rest : List ℕ = replicate (n - (k + 1)) 0 in
      let at-k : length lens ≡ k = length_map_at length (map group (take k fs)) ∙ length_map_at group (take k fs) ∙ length-take-le k fs (omega arith) in
      let stored : set counts k c ≡ lens ++ (c ∷ rest) = rw (before, more) (rw at-k at (set_after lens 0 c rest)) in
      let made : map length (map group (take (k + 1) fs)) ++ rest ≡ lens ++ (c ∷ rest) =
      rw (take_next fs k d (omega arith), map_one_more group (take k fs) (get_or fs k d), map_one_more length (map group (take k fs)) (group (get_or fs k d)), is)
      (append_assoc lens (length (group (get_or fs k d)) ∷ []) rest) in
      stored ∙ sym made

-- After all of them.
module _ {F A : Type 0} (group : F → List A) (fs : List F) where
  pub groups_done : (k : ℕ) → length fs ≤ k → map group (take k fs) ≡ map group fs
  groups_done k h = ap (map group) (take_all k fs h)

  pub counts_done : (k n : ℕ) (counts : List ℕ) → length fs ≡ n → n ≤ k → counts ≡ map length (map group (take k fs)) ++ replicate (n - k) 0 → counts ≡ map length (map group fs)
  counts_done k n counts all h e = let none : n - k ≡ zero = omega arith in rw (take_all k fs (omega arith), none, append-nil) at e

-- What was listed is what `lay` says: the buffer, and the groups' counts or 9.
module _ {A : Type 0} (numbers : ℕ) (numbers_of : A → List ℕ) (some : 0 < numbers) (sized : (a : A) → length (numbers_of a) ≡ numbers)
    {groups : List (List A)} {was out : List ℕ} {count : ℕ} {counts : List ℕ} (made : MadeGroups numbers numbers_of groups was out count counts) where
  laid_is : output out count ≡ output (lay numbers numbers_of groups was).out (length (joined groups))
  laid_is = made.is ∙ all_laid numbers numbers_of some sized groups was

  pub laid_out : out ≡ (lay numbers numbers_of groups was).out
  laid_out = ap (λ (s : Output). s.out) laid_is

  pub laid_answer : {room : ℕ} → room ≡ capacity numbers (length was) → answer (too_many count room) counts ≡ (lay numbers numbers_of groups was).answer
  unfolding lay
  laid_answer is = rw (is, ap (λ (s : Output). s.listed) laid_is, made.each)
