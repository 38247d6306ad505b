-- What stands in a buffer, read back: "Groups lie end to end from the start", and the answer's counts cut them apart.
use Rattle.std.specs.Prelude.{List, [], ◌∷◌, ℕ, zero, suc, ◌-◌, ◌*◌, length, take, drop}

-- The first n items of a buffer, each of so many numbers and read from those on.
unfoldable pub items_in : {A : Type 0} → ℕ → (List ℕ → A) → ℕ → List ℕ → List A
items_in numbers read zero out = []
items_in numbers read (suc n) out = read out ∷ items_in numbers read n (drop numbers out)

-- The groups of a buffer, cut out by their counts.
unfoldable pub groups_in : {A : Type 0} → ℕ → (List ℕ → A) → List ℕ → List ℕ → List (List A)
groups_in numbers read [] out = []
groups_in numbers read (n ∷ counts) out = items_in numbers read n out ∷ groups_in numbers read counts (drop (n * numbers) out)

-- Something holds of the items of two lists, the first with the first, the second with the second, and so on, and the lists are equally long.
unfoldable pub Matched : {A B : Type 0} → (A → B → Type 0) → List A → List B → Type 0
Matched P [] [] = Unit {0}
Matched P [] (b ∷ m) = ⊥
Matched P (a ∷ l) [] = ⊥
Matched P (a ∷ l) (b ∷ m) = P a b × Matched P l m

-- The first n items of lists that lie end to end, list by list.
unfoldable pub first_of : {A : Type 0} → ℕ → List (List A) → List (List A)
first_of n [] = []
first_of n (l ∷ ls) = take n l ∷ first_of (n - length l) ls
