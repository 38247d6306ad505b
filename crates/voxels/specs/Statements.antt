-- What is shown of the entry checks for their reader (proofs/Lowest.antt): document 01, 'Refusal numbers' 8, "a bad voxel inside the box", "lowest index".
use Rattle.std.specs.Prelude.{◌≡◌, ℕ, ◌≤◌, true, false, List}
use Rattle.geometry.specs.Point.{Point}
use Rattle.voxels.specs.Voxel.{bad}
use Rattle.voxels.specs.Shape.{index, field}
use Rattle.voxels.specs.Extent.{box, Inside}

-- A bad voxel in the box has this index, and none in the box has a lower one.
pub record LowestBad (shape min max : Point) (voxels : List ℕ) (place : ℕ) : Type 0 where
  pub voxel : Point
  pub inside : Inside (box min max) voxel
  pub is_bad : bad (field shape voxels voxel) ≡ true
  pub index_is : index shape voxel ≡ place
  pub lowest : (p : Point) → Inside (box min max) p → bad (field shape voxels p) ≡ true → place ≤ index shape p

-- No voxel in the box is bad.
abbrev pub NoneBad : Point → Point → Point → List ℕ → Type 0
NoneBad shape min max voxels = (p : Point) → Inside (box min max) p → bad (field shape voxels p) ≡ false
