-- Which faces are visible: document 01, 'Faces', last paragraph; simple.rs lines 58, 59 and 64 to 80, greedy.rs 149, 156 to 161 and 236 to
-- 249.
use Rattle.std.specs.Prelude.{ℕ, ◌+◌, ◌-◌, ◌%◌, Bool, true, false}
use Rattle.geometry.specs.declared.axis.Axis.{Axis}
use Rattle.geometry.specs.declared.face.OrientedBlockFace.{OrientedBlockFace}
use Rattle.geometry.specs.Point.{Point, along, put, moved}
use Rattle.geometry.specs.Axes.{positive, n_axis}
use Rattle.voxels.specs.Voxel.{shows}
use Rattle.voxels.specs.Shape.{Field}

-- A point, one step along an axis: up, or down. (There is nothing below 0: from there a step down stays. No interior point is at 0.)
unfoldable pub stepped : Bool → Axis → Point → Point
stepped true a p = moved a 1 p
stepped false a p = put a (along a p - 1) p

-- "the neighbour one step along the signed normal"
abbrev pub beyond : OrientedBlockFace → Point → Point
beyond f p = stepped (positive f.n_sign) (n_axis f) p

-- "A voxel's face is visible when" it shows its face to that neighbour.
unfoldable pub visible : OrientedBlockFace → Field → Point → Bool
visible f v p = shows (v p) (v (beyond f p))

-- 2 to the 32nd.
abbrev pub modulus : ℕ
modulus = 4_294_967_296

-- What leads from a voxel's index to its neighbour's: the stride of n, and "The step toward the negative side is kept as zero minus the stride, modulo 2 to
-- the 32nd" (greedy.rs 157 to 161). An accepted shape's strides are below that.
abbrev pub visibility_offset : Bool → ℕ → ℕ
visibility_offset true stride = stride
visibility_offset false stride = (modulus - stride) % modulus

-- "and added modulo the same" (greedy.rs 241, simple.rs 71): the index that an offset leads to. From an interior point it is the index of `beyond` (proofs/Steps.antt,
-- `offset_leads`).
abbrev pub offset_index : ℕ → ℕ → ℕ
offset_index i offset = (i + offset) % modulus
