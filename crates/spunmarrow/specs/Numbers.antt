-- What the numbers of a C call stand for (include/spunmarrow.h). A permutation, corner or axis number outside its range is refusal 17, which is ours
-- (docs/DECISIONS.md).
use Rattle.std.specs.Prelude.{List, [], ◌∷◌, ℕ, ℤ, leb, length, get_or}
use Rattle.geometry.specs.declared.axis.Axis.{Axis}
use Rattle.geometry.specs.declared.axis.Axis.TheVariants.{X, Y, Z}
use Rattle.geometry.specs.declared.axis.AxisPermutation.{AxisPermutation}
use Rattle.geometry.specs.declared.quad.UnorientedQuad.{UnorientedQuad}
use Rattle.geometry.specs.declared.face.OrientedBlockFace.{OrientedBlockFace}
use Rattle.geometry.specs.declared.face.Corner.{Corner}
use Rattle.geometry.specs.declared.face.Corner.TheVariants.{MinuMinv, MaxuMinv, MinuMaxv, MaxuMaxv}
use Rattle.geometry.specs.Point.{Point, at}
use Rattle.geometry.specs.Axes.{permutation_of}
use Rattle.geometry.specs.Refusal.{Answer, accepted, answer, at_place0, and_then}
use Rattle.greedy.specs.Call.{quad_from}

-- ---- arrays. (`get_or`'s last argument is what stands past the end of a list, and is never given: the arrays have that many numbers by their types.)

-- The point of three numbers.
unfoldable pub point_of : List ℕ → Point
point_of l = at (get_or l 0 0) (get_or l 1 0) (get_or l 2 0)

-- The quad of five numbers, as it is read from an output: minimum x, y, z, width, height.
abbrev pub quad_of : List ℕ → UnorientedQuad
quad_of = quad_from

-- ---- numbers of cases

-- One of a list, by its place there, or refusal 17 where the list is shorter. (The second argument is never given.)
unfoldable pub numbered : {A : Type 0} → List A → A → ℕ → Answer A
numbered l d k = answer (at_place0 17 (leb (length l) k) ∷ []) (get_or l k d)

-- The corner of a number, 0 to 3, in the order of document 01: "base, +u width, +v height, both".
abbrev pub corner_of : ℕ → Answer Corner
corner_of = numbered (MinuMinv ∷ MaxuMinv ∷ MinuMaxv ∷ MaxuMaxv ∷ []) MinuMinv

-- The axis of a number, 0 to 2: X, Y, Z.
abbrev pub axis_of : ℕ → Answer Axis
axis_of = numbered (X ∷ Y ∷ Z ∷ []) X

-- ---- faces

-- The face of a sign and a permutation.
abbrev pub face : ℤ → AxisPermutation → OrientedBlockFace
face s p = record { n_sign = s; permutation = p }

-- The face of any sign and of a permutation's number.
unfoldable pub face_of : ℤ → ℕ → Answer OrientedBlockFace
face_of s k = and_then (permutation_of k) (λ (p : AxisPermutation). accepted (face s p))
