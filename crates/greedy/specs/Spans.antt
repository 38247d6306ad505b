-- For src/face_scan.rt: the order in which a face's interior is scanned, and what its scan goes by.
use Rattle.std.specs.Prelude.{ℕ, ◌-◌}
use Rattle.geometry.specs.declared.axis.Axis.{Axis}
use Rattle.geometry.specs.declared.axis.Axis.TheVariants.{X, Y, Z}
use Rattle.geometry.specs.declared.face.OrientedBlockFace.{OrientedBlockFace}
use Rattle.geometry.specs.Point.{Point, at, along}
use Rattle.geometry.specs.Axes.{positive, axes_of, n_axis, u_axis, v_axis}
use Rattle.voxels.specs.Shape.{stride}
use Rattle.voxels.specs.Visible.{visibility_offset}
use Rattle.voxels.specs.declared.extent.Extent.{Extent}
use Rattle.greedy.specs.declared.face_scan.Span.{Span}
use Rattle.greedy.specs.declared.face_scan.FaceScan.{FaceScan}

-- Of the two axes of a slice along n, the one that scan order runs through faster,
abbrev pub faster : Axis → Axis
faster X = Y
faster Y = X
faster Z = X

-- and the other.
abbrev pub slower : Axis → Axis
slower X = Z
slower Y = Z
slower Z = Y

-- A point from its coordinates on an axis n, on the slower of the other two, and on the faster.
abbrev pub spot : Axis → ℕ → ℕ → ℕ → Point
spot X k j i = at k i j
spot Y k j i = at i k j
spot Z k j i = at i j k

-- The span of an extent along an axis.
unfoldable pub span_of : Point → Extent → Axis → Span
span_of shape e a = record { start = along a e.minimum; count = along a e.bound - along a e.minimum; stride = record { 0 = stride shape a } }

-- A face's strides along u,
abbrev pub u_stride : Point → OrientedBlockFace → ℕ
u_stride shape f = stride shape (u_axis f)

-- along v,
abbrev pub v_stride : Point → OrientedBlockFace → ℕ
v_stride shape f = stride shape (v_axis f)

-- and the offset to the voxel that shares the face.
abbrev pub side_offset : Point → OrientedBlockFace → ℕ
side_offset shape f = visibility_offset (positive f.n_sign) (stride shape (n_axis f))

-- What the scan of a face goes by.
unfoldable pub face_scan : Point → Extent → OrientedBlockFace → FaceScan
face_scan shape inner f = record {
  axes = axes_of f.permutation;
  strides = record {
    u_stride = record { 0 = u_stride shape f };
    v_stride = record { 0 = v_stride shape f };
    visibility_offset = record { 0 = side_offset shape f };
  };
  bound = inner.bound;
  slices = span_of shape inner (n_axis f);
  rows = span_of shape inner (slower (n_axis f));
  row = span_of shape inner (faster (n_axis f));
}
