-- Shapes and places: document 01, 'Voxels and their places', second point. The Rust leaves both to ndshape (`size`, `linearize`).
use Rattle.std.specs.Prelude.{ℕ, ◌+◌, ◌*◌, ◌<◌, List, slice_index}
use Rattle.geometry.specs.declared.axis.Axis.{Axis}
use Rattle.geometry.specs.declared.axis.Axis.TheVariants.{X, Y, Z}
use Rattle.geometry.specs.Point.{Point, along}

-- A shape's voxels: X·Y·Z.
unfoldable pub size : Point → ℕ
size shape = shape.x * shape.y * shape.z

-- "Voxel (x, y, z) has index x + X·y + X·Y·z."
unfoldable pub index : Point → Point → ℕ
index shape p = p.x + shape.x * p.y + shape.x * shape.y * p.z

-- What one step up along an axis adds to the index (proofs/Places.antt, `index_moved`).
unfoldable pub stride : Point → Axis → ℕ
stride shape X = 1
stride shape Y = shape.x
stride shape Z = shape.x * shape.y

-- A point lies in the shape.
abbrev pub InShape : Point → Point → Type 0
InShape shape p = (a : Axis) → along a p < along a shape

-- A field says the voxel number at each point. All rules of meshing take a field.
abbrev pub Field : Type 0
Field = Point → ℕ

-- A block's field: its voxels, read by their index. (`slice_index` gives 0 past the end of the list; an accepted call never comes there.)
unfoldable pub field : Point → List ℕ → Field
field shape voxels p = slice_index voxels (index shape p)
