-- What an entry that passes leaves, for private contracts here and in the meshers. No public contract uses it.
use Rattle.std.specs.Prelude.{◌≡◌, ℕ, ◌+◌, ◌-◌, ◌<◌, ◌≤◌, List, slice_index}
use Rattle.geometry.specs.declared.axis.Axis.{Axis}
use Rattle.geometry.specs.Point.{Point, along}
use Rattle.voxels.specs.declared.extent.Extent.{Extent}
use Rattle.voxels.specs.Voxel.{class}
use Rattle.voxels.specs.Shape.{size, index}
use Rattle.voxels.specs.Extent.{interior}

-- The most voxels that a shape has.
abbrev pub most_voxels : ℕ
most_voxels = 16_777_216

-- No axis is longer, so that the voxels of a row are counted in 16 bits.
abbrev pub longest : ℕ
longest = 65_535

-- What checks 1 to 5 leave: the shape is small, its axes are short, every voxel was lent, and the box spans two voxels or more on each axis and lies in the shape.
pub record Held (shape : Point) (lent : ℕ) (min max : Point) : Type 0 where
  pub small : size shape ≤ most_voxels
  pub short : (a : Axis) → along a shape ≤ longest
  pub enough : size shape ≤ lent
  pub spans : (a : Axis) → along a min < along a max
  pub within : (a : Axis) → along a max < along a shape

-- An extent is the interior of a box that passed the entry checks.
pub record Entered (lent : ℕ) (shape : Point) (inner : Extent) : Type 0 where
  pub min : Point
  pub max : Point
  pub is : inner ≡ interior min max
  pub held : Held shape lent min max

-- An extent is the interior of such a box, whatever was lent.
pub record Interior (shape : Point) (inner : Extent) : Type 0 where
  pub lent : ℕ
  pub entered : Entered lent shape inner

-- How far an extent reaches along each axis.
abbrev pub wide_of : Extent → ℕ
wide_of e = e.bound.x - e.minimum.x

abbrev pub high_of : Extent → ℕ
high_of e = e.bound.y - e.minimum.y

abbrev pub deep_of : Extent → ℕ
deep_of e = e.bound.z - e.minimum.z

-- A point lies in the box around an interior, which is a voxel wider on each side.
abbrev pub Around : Extent → Point → Type 0
Around inner p = (a : Axis) → (along a inner.minimum ≤ along a p + 1) × (along a p ≤ along a inner.bound)

-- No voxel of the box around an interior is bad.
abbrev pub SoundAround : List ℕ → Point → Extent → Type 0
SoundAround voxels shape inner = (p : Point) → Around inner p → class (slice_index voxels (index shape p)) ≤ 2
