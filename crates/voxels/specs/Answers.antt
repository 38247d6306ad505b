-- What an accepted call needs of its block. What an answer means is geometry's `meaning`.
use Rattle.geometry.specs.Point.{Point}
use Rattle.voxels.specs.declared.bounds.Entry.{Entry}
use Rattle.voxels.specs.Shape.{size}
use Rattle.voxels.specs.Extent.{interior}

-- An entry is the number of voxels of the shape, and the interior of the box.
abbrev pub entry : Point → Point → Point → Entry
entry shape min max = record { size = size shape; interior = interior min max }
