-- Unit meshing: document 01, 'Unit meshing'; simple.rs lines 38 to 87. That every group holds what it should is `unit_holds` (proofs/Unit.antt).
use Rattle.std.specs.Prelude.{◌&&◌, List, map, ◌≡◌, length}
use Rattle.geometry.specs.declared.face.OrientedBlockFace.{OrientedBlockFace}
use Rattle.geometry.specs.Point.{Point}
use Rattle.geometry.specs.Axes.{bit}
use Rattle.geometry.specs.Lists.{those, how_many}
use Rattle.voxels.specs.Shape.{Field}
use Rattle.voxels.specs.Extent.{scan, inside, times}
use Rattle.voxels.specs.Visible.{visible}
use Rattle.voxels.specs.declared.extent.Extent.{Extent}

-- "A group lists the minima .. of all visible interior voxels in scan order" (61 to 86). The Rust walks the interior once and appends to each face's group as it goes;
-- each group on its own is this.
unfoldable pub unit_group : Extent → Field → OrientedBlockFace → List Point
unit_group inner v f = those (visible f v) (scan inner)

-- "Six groups, one a face, in the order given."
unfoldable pub unit_groups : Extent → Field → List OrientedBlockFace → List (List Point)
unit_groups inner v faces = map (unit_group inner v) faces

-- A group of a face over an interior, point by point.
pub record UnitHolds (v : Field) (inner : Extent) (f : OrientedBlockFace) (group : List Point) : Type 0 where
  -- Every point, of any three numbers, stands in it once where it is interior and its face is visible, and else not at all.
  pub once : (p : Point) → times p group ≡ bit (inside inner p && visible f v p)
  -- It is in scan order: the points of the scan, with some left out.
  pub order : group ≡ those (visible f v) (scan inner)
  -- Its count is the number of interior points whose face is visible.
  pub count : length group ≡ how_many (visible f v) (scan inner)
