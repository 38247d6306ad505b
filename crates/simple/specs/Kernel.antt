-- What the private functions of src/lib.rt and src/rows.rt ask for and promise: what can be meshed, the six strides, the slices, where each face's run begins, and the groups that are made.
use Rattle.std.specs.Prelude.{List, ◌≡◌, ℕ, zero, suc, ◌+◌, ◌%◌, ◌<◌, pos, length, get_or}
use Rattle.geometry.specs.declared.axis.Axis.TheVariants.{Y, Z}
use Rattle.geometry.specs.declared.axis.AxisPermutation.TheVariants.{Xyz}
use Rattle.geometry.specs.declared.face.OrientedBlockFace.{OrientedBlockFace}
use Rattle.geometry.specs.Point.{Point}
use Rattle.geometry.specs.Axes.{positive, n_axis}
use Rattle.voxels.specs.declared.extent.Extent.{Extent}
use Rattle.voxels.specs.declared.index.Stride.{Stride}
use Rattle.voxels.specs.Shape.{stride, field}
use Rattle.voxels.specs.Visible.{modulus, visibility_offset}
use Rattle.voxels.specs.Entered.{Entered, SoundAround, wide_of, high_of, deep_of}
use Rattle.listing.specs.Pushed.{MadeGroups}
use Rattle.rules.specs.Unit.{unit_groups}
use Rattle.simple.specs.declared.Meshed.{Meshed}
use Rattle.simple.specs.declared.rows.Slices.{Slices}
use Rattle.simple.specs.Unit.{unit_numbers, numbers_of}
use Rattle.simple.specs.Ready.{offset_of, EachFace}

-- An extent of a block can be meshed: it is the interior of a box that passed the entry checks, and no voxel around it is bad.
pub record Meshable (voxels : List ℕ) (shape : Point) (inner : Extent) : Type 0 where
  pub entered : Entered (length voxels) shape inner
  pub sound : SoundAround voxels shape inner

-- Its slices along z, of rows along x.
abbrev pub slices_of : Point → Extent → Slices
slices_of shape inner = record {
  rows = record { wide = wide_of inner; stride = record { 0 = stride shape Y }; high = high_of inner };
  stride = record { 0 = stride shape Z };
  deep = deep_of inner;
}

-- What leads from a voxel to the one that shares its face, as the code computes it.
unfoldable pub kernel_stride : Point → OrientedBlockFace → ℕ
kernel_stride shape f = visibility_offset (positive f.n_sign) (stride shape (n_axis f) % modulus)

-- What stands past the end of a list of faces.
abbrev pub no_face : OrientedBlockFace
no_face = record { n_sign = pos 0; permutation = Xyz }

-- Six strides are those of six faces.
abbrev pub KernelOf : Point → List OrientedBlockFace → List Stride → Type 0
KernelOf shape faces strides = EachFace (λ (f : ℕ). offset_of strides f ≡ kernel_stride shape (get_or faces f no_face))

-- Where a face's run begins: after the quads of the faces before it.
unfoldable pub start_of : List ℕ → ℕ → ℕ
start_of counts zero = 0
start_of counts (suc f) = start_of counts f + get_or counts f 0

-- Six cursors stand where the runs of so many quads begin, and the last run ends at a number.
pub record Starts (counts cursors : List ℕ) (end : ℕ) : Type 0 where
  pub all : length cursors ≡ 6
  pub each : (f : ℕ) → f < 6 → get_or cursors f 0 ≡ start_of counts f
  pub last : end ≡ start_of counts 6

-- What was counted and what stands in the output are the groups of the rule.
abbrev pub GroupsMade : List ℕ → Point → Extent → List OrientedBlockFace → List ℕ → List ℕ → Meshed → Type 0
GroupsMade voxels shape inner faces was out meshed = MadeGroups unit_numbers numbers_of (unit_groups inner (field shape voxels) faces) was out meshed.listed meshed.counts
