-- A voxel's number: document 01, 'Voxels and their places', first point, and of 'Faces' when a voxel shows its face; lib.rs
-- lines 90 to 99 (`VoxelVisibility`), greedy.rs 12 to 18 (`MergeVoxel`) and 236 to 249, simple.rs 66 to 80.
use Rattle.std.specs.Prelude.{ℕ, ◌/◌, ◌%◌, Bool, not, ◌&&◌, ◌||◌, ◌==◌}

-- How many merge values there are.
abbrev pub merge_values : ℕ
merge_values = 16_384

-- "Divided by 16,384 it gives the class: 0 empty, 1 translucent, 2 opaque; 3 is bad."
unfoldable pub class : ℕ → ℕ
class v = v / merge_values

-- "The remainder, 0 to 16,383, is the merge value."
unfoldable pub merge_value : ℕ → ℕ
merge_value v = v % merge_values

-- Class 0.
abbrev pub empty : ℕ → Bool
empty v = class v == 0

-- Class 1.
abbrev pub translucent : ℕ → Bool
translucent v = class v == 1

-- Class 2.
abbrev pub opaque : ℕ → Bool
opaque v = class v == 2

-- Class 3.
abbrev pub bad : ℕ → Bool
bad v = class v == 3

-- Whether a voxel v shows its face to its neighbour w: "the voxel isn't empty and the neighbour .. is empty, or is translucent while the voxel is opaque.
-- Two translucent voxels show nothing to each other."
unfoldable pub shows : ℕ → ℕ → Bool
shows v w = not (empty v) && (empty w || (translucent w && opaque v))

-- Whether two voxels may share a quad: their merge values are equal. "Class is not compared".
unfoldable pub uniform : ℕ → ℕ → Bool
uniform v w = merge_value v == merge_value w
