-- The whole outcome of unit meshing: document 01, 'Unit meshing', and of 'Refusal numbers' what stands below the table. Its groups are the rules' (crates/rules/specs/Unit.antt).
use Rattle.std.specs.Prelude.{List, [], ◌∷◌, ℕ}
use Rattle.geometry.specs.declared.face.OrientedBlockFace.{OrientedBlockFace}
use Rattle.geometry.specs.Refusal.{Answer, checked}
use Rattle.geometry.specs.Point.{Point}
use Rattle.voxels.specs.declared.extent.Extent.{Extent}
use Rattle.voxels.specs.Shape.{Field, field}
use Rattle.voxels.specs.Extent.{interior}
use Rattle.voxels.specs.Checks.{unit_checks}
use Rattle.listing.specs.Outcome.{listed_after, MeshOutcome, listed_outcome}
use Rattle.rules.specs.Unit.{unit_groups}

-- How many numbers a listed unit quad has: "three numbers each".
abbrev pub unit_numbers : ℕ
unit_numbers = 3

-- Which they are: its minimum's (simple.rs 83).
abbrev pub numbers_of : Point → List ℕ
numbers_of p = p.x ∷ p.y ∷ p.z ∷ []

-- Unit meshing of a field's interior after an entry: the entry refuses, then 9; otherwise the answer has the number of quads of each group. Where the entry passes the output holds the listing, as
-- far as it fits.
unfoldable pub unit_from : Answer (Unit {0}) → Extent → Field → List OrientedBlockFace → List ℕ → MeshOutcome
unit_from entry inner v faces out = listed_outcome (listed_after entry unit_numbers numbers_of (unit_groups inner v faces) out)

-- The whole outcome of a call: of the block's own field, after 1 to 6 and 8.
unfoldable pub visible_block_faces : List ℕ → Point → Point → Point → List OrientedBlockFace → List ℕ → MeshOutcome
visible_block_faces voxels shape min max faces out = unit_from (checked (unit_checks voxels shape min max faces)) (interior min max) (field shape voxels) faces out
