-- What the meshers check on entry: document 01, 'Refusal numbers', 1 to 8. "Checked in this order; the first that applies is given, with its place." Each refusal
-- is a definition, a list of the checks of its number in the order of their places, and an order is some of those one after another. The Rust (bounds.rs)
-- stops the program at 2 (lines 9 to 14), at shape 0 (16 to 19) and at 4 (24 to 27), means to at 3 (20 to 23), and has nothing for the others.
use Rattle.std.specs.Prelude.{ℕ, ◌+◌, Bool, ◌||◌, List, [], ◌∷◌, ◌++◌, map, length, ◌==◌, nat_le, nat_lt, slice_index}
use Rattle.geometry.specs.declared.axis.Axis.{Axis}
use Rattle.geometry.specs.declared.axis.Axis.TheVariants.{X, Y, Z}
use Rattle.geometry.specs.declared.face.OrientedBlockFace.{OrientedBlockFace}
use Rattle.geometry.specs.Refusal.{Check, at_place0, at_place}
use Rattle.geometry.specs.Point.{Point, along, axis_number}
use Rattle.geometry.specs.Quad.{largest_axis}
use Rattle.geometry.specs.Checks.{bad_sign}
use Rattle.voxels.specs.Voxel.{bad}
use Rattle.voxels.specs.Shape.{size, index}
use Rattle.voxels.specs.Extent.{box, scan}

-- ---- the refusals

-- A check made on each axis, the axis' number as its place: the first axis where it applies is given.
abbrev pub on_each_axis : (Axis → Check) → List Check
on_each_axis c = at_place (axis_number X) (c X) ∷ at_place (axis_number Y) (c Y) ∷ at_place (axis_number Z) (c Z) ∷ []

-- Whether a shape's axis is 0 or above the largest.
unfoldable pub bad_axis : ℕ → Bool
bad_axis n = n == 0 || nat_lt largest_axis n

-- Refusal 1: "an axis of the shape is 0 or above 256"; "first such axis".
abbrev pub bad_shape : Point → List Check
bad_shape shape = on_each_axis (λ (a : Axis). at_place0 1 (bad_axis (along a shape)))

-- Refusal 2: "fewer voxels lent than X·Y·Z"; place 0.
abbrev pub few_voxels : ℕ → Point → List Check
few_voxels lent shape = at_place0 2 (nat_lt lent (size shape)) ∷ []

-- Refusal 3: "min above max on an axis"; "first axis".
abbrev pub min_above_max : Point → Point → List Check
min_above_max min max = on_each_axis (λ (a : Axis). at_place0 3 (nat_lt (along a max) (along a min)))

-- Refusal 4: "max at or past the shape"; "first axis".
abbrev pub max_past_shape : Point → Point → List Check
max_past_shape shape max = on_each_axis (λ (a : Axis). at_place0 4 (nat_le (along a shape) (along a max)))

-- Refusal 5: "min equals max on an axis"; "first axis".
abbrev pub min_is_max : Point → Point → List Check
min_is_max min max = on_each_axis (λ (a : Axis). at_place0 5 (along a min == along a max))

-- Refusal 6 of some faces, the first of them the k-th.
unfoldable pub bad_faces_from : ℕ → List OrientedBlockFace → List Check
bad_faces_from k [] = []
bad_faces_from k (f ∷ fs) = at_place k (bad_sign f) ∷ bad_faces_from (k + 1) fs

-- Refusal 6: "a face's sign is neither 1 nor -1"; "first face, 0 to 5".
abbrev pub bad_faces : List OrientedBlockFace → List Check
bad_faces faces = bad_faces_from 0 faces

-- Refusal 7: "visited buffer shorter than X·Y·Z"; place 0.
abbrev pub few_visited : ℕ → Point → List Check
few_visited lent shape = at_place0 7 (nat_lt lent (size shape)) ∷ []

-- Refusal 8 of the voxel at an index, which is the place.
abbrev pub bad_voxel_at : List ℕ → ℕ → Check
bad_voxel_at voxels i = record { number = 8; applies = bad (slice_index voxels i); place = i }

-- Refusal 8: "a bad voxel inside the box"; "lowest index". The whole box is looked at, and not its interior alone, and nothing past it. In a box that has passed 1 to 5
-- scan order goes from low indices to high, so the first in scan order is the lowest (proofs/Lowest.antt, `lowest_index`).
unfoldable pub bad_voxels : List ℕ → Point → Point → Point → List Check
bad_voxels voxels shape min max = map (λ (p : Point). bad_voxel_at voxels (index shape p)) (scan (box min max))

-- ---- the orders

-- Of the number of voxels lent, a shape and a box: 1 to 5. Where they pass, the box lies in the shape and every voxel of it was lent.
unfoldable pub bounds_checks : ℕ → Point → Point → Point → List Check
bounds_checks lent shape min max = bad_shape shape ++ few_voxels lent shape ++ min_above_max min max ++ max_past_shape shape max ++ min_is_max min max

-- Of a block and a box: 1 to 5, then 8.
abbrev pub box_checks : List ℕ → Point → Point → Point → List Check
box_checks voxels shape min max = bounds_checks (length voxels) shape min max ++ bad_voxels voxels shape min max

-- Of unit meshing: 1 to 6, then 8.
abbrev pub unit_checks : List ℕ → Point → Point → Point → List OrientedBlockFace → List Check
unit_checks voxels shape min max faces =
    bounds_checks (length voxels) shape min max ++ bad_faces faces ++ bad_voxels voxels shape min max

-- Of greedy meshing, whose last argument is the number of visited bytes lent: 1 to 8.
abbrev pub greedy_checks : List ℕ → Point → Point → Point → List OrientedBlockFace → ℕ → List Check
greedy_checks voxels shape min max faces visited =
    bounds_checks (length voxels) shape min max ++ bad_faces faces ++ few_visited visited shape ++ bad_voxels voxels shape min max
