-- Rows and slices of voxels by their indices, as the loops of src/bounds.rt and of the meshers go through them. No public contract uses it.
use Rattle.std.specs.Prelude.{ℕ, ◌+◌, ◌*◌, ◌<◌, ◌≤◌, Bool, true, false, List, [], ◌∷◌, ◌++◌, slice_index}
use Rattle.geometry.specs.Refusal.{Check}
use Rattle.voxels.specs.Loop.{every}
use Rattle.voxels.specs.Checks.{bad_voxel_at}
use Rattle.voxels.specs.Entered.{most_voxels}

-- What `f` gives at each of a list, end to end.
unfoldable pub gathered : {A B : Type 0} → (A → List B) → List A → List B
gathered f [] = []
gathered f (a ∷ l) = f a ++ gathered f l

-- An item where something holds, and nothing where it does not.
abbrev pub kept_if : {A : Type 0} → Bool → A → List A
kept_if true a = a ∷ []
kept_if false a = []

-- An item where it passes a test.
unfoldable pub kept : {A : Type 0} → (A → Bool) → A → List A
kept test a = kept_if (test a) a

-- What `g` gives at the indices of a row of so many voxels from an index on, end to end.
unfoldable pub row : {A : Type 0} → (ℕ → List A) → ℕ → ℕ → List A
row g wide i = every 1 i wide g

-- What `g` gives in so many rows, a stride apart, the first from an index on.
unfoldable pub rows : {A : Type 0} → (ℕ → List A) → ℕ → ℕ → ℕ → ℕ → List A
rows g wide d high i = every d i high (row g wide)

-- What `g` gives in so many slices, a stride apart, the first from an index on.
unfoldable pub slices : {A : Type 0} → (ℕ → List A) → ℕ → ℕ → ℕ → ℕ → ℕ → ℕ → List A
slices g wide d high e deep i = every e i deep (rows g wide d high)

-- Refusal 8 of the voxel at an index, as a list.
abbrev pub bad_at : List ℕ → ℕ → List Check
bad_at voxels i = bad_voxel_at voxels i ∷ []

-- No voxel of a row is greater than a number.
abbrev pub AtMost : List ℕ → ℕ → ℕ → ℕ → Type 0
AtMost voxels i wide most = (k : ℕ) → k < wide → slice_index voxels (i + k) ≤ most

-- The voxels of a row were lent.
abbrev pub RowLent : ℕ → ℕ → ℕ → Type 0
RowLent lent i wide = (k : ℕ) → k < wide → i + k < lent

-- So many rows, a stride apart, lie among the voxels lent, and their indices fit.
pub record RowsLent (lent i wide d high : ℕ) : Type 0 where
  pub each : (k : ℕ) → k < high → i + k * d + wide ≤ lent
  pub last : i + high * d ≤ 2 * most_voxels

-- So do the rows of so many slices, a stride apart.
pub record SlicesLent (lent i wide d high e deep : ℕ) : Type 0 where
  pub each : (k : ℕ) → k < deep → RowsLent lent (i + k * e) wide d high
  pub last : i + deep * e ≤ 2 * most_voxels
