-- What was laid stands in the buffer: read back it is the items that were listed, and the counts cut out their groups.
use mathlib.Core.List.{List, [], ◌∷◌, ◌++◌, map, append_assoc}
use mathlib.Core.Path.{◌≡◌, refl, sym, ◌∙◌, ap}
use Prim.Native.Nat.{ℕ, zero, suc, ◌-◌, ◌*◌, ◌≤◌, ◌<◌}
use native.Mathlib.Nat.{zero-mul, suc-mul, div-mul-le_self}
use native.Mathlib.Omega.{arith}
use lib.Dec.{ltb}
use lib.ListN.{length, take, drop, length-append, length-drop}
use lib.Seq.{drop_at, length-take-le, take_all}
use borrow.Author.Tests.{ltb-true, ltb-false}
use Rattle.geometry.specs.Lists.{Each}
use Rattle.geometry.proofs.Refusals.{split}
use Rattle.listing.specs.Listing.{joined, overwritten, capacity, lay}
use Rattle.listing.specs.Outcome.{MeshAnswer, mesh_answer}
use Rattle.listing.specs.Cut.{items_in, groups_in, Matched, first_of}
use Rattle.listing.proofs.Pushed.{lay_many, lay_fits}

-- ---- lists, item by item

-- What holds of each with what it gives holds of the two lists.
pub matched_each : {A B : Type 0} (P : A → B → Type 0) (g : A → B) (l : List A) → Each (λ (a : A). P a (g a)) l → Matched P l (map g l)
unfolding Matched Each
matched_each P g [] h = tt
matched_each P g (a ∷ l) h = (h.0, matched_each P g l h.1)

-- So of the first items of what each gives.
pub matched_first : {A B : Type 0} (P : A → List B → Type 0) (g : A → List B) → ((a : A) (m : ℕ) → P a (take m (g a))) → (n : ℕ) (l : List A) → Matched P l (first_of n (map g l))
unfolding Matched first_of
matched_first P g h n [] = tt
matched_first P g h n (a ∷ l) = (h a n, matched_first P g h (n - length (g a)) l)

take_append : {A : Type 0} (n : ℕ) (l m : List A) → take n (l ++ m) ≡ take n l ++ take (n - length l) m
take_append zero l m = let none : zero - length l ≡ zero = omega arith in rw none
take_append (suc n) [] m = let all_left : suc n - 0 ≡ suc n = omega arith in rw all_left
take_append (suc n) (a ∷ l) m = let less : suc n - length (a ∷ l) ≡ n - length l = omega arith in rw less (ap (λ (r : List _). a ∷ r) (take_append n l m))

-- The first n of lists end to end are the first of each.
pub first_joined : {A : Type 0} (n : ℕ) (ls : List (List A)) → take n (joined ls) ≡ joined (first_of n ls)
unfolding joined first_of
first_joined zero [] = refl
first_joined (suc n) [] = refl
first_joined n (l ∷ ls) = take_append n l (joined ls) ∙ ap (λ (r : List _). take n l ++ r) (first_joined (n - length l) ls)

pub map_take : {A B : Type 0} (f : A → B) (n : ℕ) (l : List A) → map f (take n l) ≡ take n (map f l)
map_take f zero l = refl
map_take f (suc n) [] = refl
map_take f (suc n) (a ∷ l) = ap (λ (r : List _). f a ∷ r) (map_take f n l)

map_append : {A B : Type 0} (f : A → B) (l m : List A) → map f (l ++ m) ≡ map f l ++ map f m
map_append f [] m = refl
map_append f (a ∷ l) m = ap (λ (r : List _). f a ∷ r) (map_append f l m)

pub map_joined : {A B : Type 0} (f : A → B) (ls : List (List A)) → map f (joined ls) ≡ joined (map (map f) ls)
unfolding joined
map_joined f [] = refl
map_joined f (l ∷ ls) = map_append f l (joined ls) ∙ ap (λ (r : List _). map f l ++ r) (map_joined f ls)

-- ---- what was laid

-- Items of so many numbers, each of which is read back from its numbers, whatever follows them.
module _ {A B : Type 0} (numbers : ℕ) (numbers_of : A → List ℕ) (sized : (a : A) → length (numbers_of a) ≡ numbers)
    (read : List ℕ → B) (item : A → B) (back : (a : A) (rest : List ℕ) → read (numbers_of a ++ rest) ≡ item a) where
  -- The numbers of items, end to end.
  abbrev all : List A → List ℕ
  all l = joined (map numbers_of l)

  all_append : (l m : List A) → all (l ++ m) ≡ all l ++ all m
  unfolding joined
  all_append [] m = refl
  all_append (a ∷ l) m = rw (all_append l m) (sym (append_assoc (numbers_of a) (all l) (all m)))

  all_length : (l : List A) → length (all l) ≡ length l * numbers
  unfolding joined
  all_length [] = sym (zero-mul numbers)
  all_length (a ∷ l) = omega (arith, length-append (numbers_of a) (all l), sized a, all_length l, suc-mul (length l) numbers)

  -- What was listed stands there,
  items_back : (l : List A) (rest : List ℕ) → items_in numbers read (length l) (all l ++ rest) ≡ map item l
  unfolding items_in joined
  items_back [] rest = refl
  items_back (a ∷ l) rest =
      let cut : all (a ∷ l) ++ rest ≡ numbers_of a ++ (all l ++ rest) = append_assoc (numbers_of a) (all l) rest in
      rw (cut, back a (all l ++ rest), drop_at (numbers_of a) (all l ++ rest) numbers (sized a), items_back l rest)

  -- and the counts cut out the groups.
  groups_back : (ls : List (List A)) (rest : List ℕ) → groups_in numbers read (map length ls) (all (joined ls) ++ rest) ≡ map (map item) ls
  unfolding groups_in joined
  groups_back [] rest = refl
  groups_back (l ∷ ls) rest =
      let cut : all (l ++ joined ls) ++ rest ≡ all l ++ (all (joined ls) ++ rest) = rw (all_append l (joined ls)) (append_assoc (all l) (all (joined ls)) rest) in
      rw (cut, items_back l (all (joined ls) ++ rest), drop_at (all l) (all (joined ls) ++ rest) (length l * numbers) (all_length l), groups_back ls rest)

  -- Of a call whose entry passed, its answer and its output at exit.
  module _ (groups : List (List A)) (was : List ℕ) {r : MeshAnswer} {out : List ℕ} (answers : r ≡ mesh_answer (lay numbers numbers_of groups was).answer) (leaves : out ≡ (lay numbers numbers_of groups was).out) where
    abbrev room : ℕ
    room = capacity numbers (length was)

    -- Where it answers 0 everything fits,
    zero_fits : r.refusal ≡ 0 → length (joined groups) ≤ room
    zero_fits is =
        split (ltb room (length (joined groups)))
        (λ t.
        let nine : r.refusal ≡ 9 = ap (λ (a : MeshAnswer). a.refusal) (answers ∙ ap mesh_answer (lay_many numbers numbers_of groups was (ltb-true _ _ t))) in
        absurd (omega arith))
        (λ e. ltb-false _ _ e)

    -- and what the counts cut out of the output are the groups.
    pub zero_groups : r.refusal ≡ 0 → groups_in numbers read r.counts out ≡ map (map item) groups
    unfolding lay overwritten
    zero_groups is =
        let fits = zero_fits is in
        ap (λ (a : MeshAnswer). groups_in numbers read a.counts out) (answers ∙ ap mesh_answer (lay_fits numbers numbers_of groups was fits))
        ∙ rw (leaves, take_all room (joined groups) fits) (groups_back groups (drop (length (all (joined groups))) was))

    -- Where it answers 9 there are more,
    nine_many : r.refusal ≡ 9 → room < length (joined groups)
    nine_many is =
        split (ltb room (length (joined groups)))
        (λ t. ltb-true _ _ t)
        (λ e.
        let none : r.refusal ≡ 0 = ap (λ (a : MeshAnswer). a.refusal) (answers ∙ ap mesh_answer (lay_fits numbers numbers_of groups was (ltb-false _ _ e))) in
        absurd (omega arith))

    -- the output is as long as it was, its capacity is the place,
    pub nine_place : r.refusal ≡ 9 → r.place ≡ capacity numbers (length out)
    unfolding lay overwritten capacity
    nine_place is =
        let many = nine_many is in
        let short : length (take room (joined groups)) ≡ room = length-take-le room (joined groups) (omega arith) in
        let written : List ℕ = all (take room (joined groups)) in
        let fits : length written ≤ length was = omega (arith, all_length (take room (joined groups)), ap (λ (k : ℕ). k * numbers) short, div-mul-le_self (length was) numbers) in
        let same : length out ≡ length was = rw leaves (length-append written (drop (length written) was) ∙ rw (length-drop (length written) was) (omega arith)) in
        ap (λ (a : MeshAnswer). a.place) (answers ∙ ap mesh_answer (lay_many numbers numbers_of groups was many)) ∙ ap (capacity numbers) (sym same)

    -- and so many of the listing stand in it: "the first quads of the listing up to its capacity".
    pub nine_first : r.refusal ≡ 9 → items_in numbers read r.place out ≡ take r.place (joined (map (map item) groups))
    unfolding lay overwritten
    nine_first is =
        let many = nine_many is in
        let place : r.place ≡ room = ap (λ (a : MeshAnswer). a.place) (answers ∙ ap mesh_answer (lay_many numbers numbers_of groups was many)) in
        let short : length (take room (joined groups)) ≡ room = length-take-le room (joined groups) (omega arith) in
        rw (place, leaves)
        (ap (λ (k : ℕ). items_in numbers read k (all (take room (joined groups)) ++ drop (length (all (take room (joined groups)))) was)) (sym short)
        ∙ items_back (take room (joined groups)) (drop (length (all (take room (joined groups)))) was)
        ∙ map_take item room (joined groups)
        ∙ ap (take room) (map_joined item groups))
