-- Words for lists, whatever is in them.
use Rattle.std.specs.Prelude.{Bool, true, false, List, [], ◌∷◌, ℕ, ◌+◌}
use Rattle.geometry.specs.Axes.{bit}

-- Something holds of each of a list.
unfoldable pub Each : {A : Type 0} → (A → Type 0) → List A → Type 0
Each P [] = Unit {0}
Each P (a ∷ l) = P a × Each P l

-- Those of a list that pass a test, in the list's order.
unfoldable pub those : {A : Type 0} → (A → Bool) → List A → List A
those test [] = []
those test (a ∷ l) = elim (test a) [ true ↦ a ∷ those test l | false ↦ those test l ]

-- How many of a list pass a test.
unfoldable pub how_many : {A : Type 0} → (A → Bool) → List A → ℕ
how_many test [] = 0
how_many test (a ∷ l) = bit (test a) + how_many test l
