-- The calls of the drawing code (include/spunmarrow.h, 'drawing'). Each is a call of geometry on the face of a sign and a permutation's number; 17 comes before the
-- others.
use Rattle.std.specs.Prelude.{Bool, List, [], ◌∷◌, ◌++◌, ℕ, ℤ, Float}
use Rattle.geometry.specs.declared.axis.Axis.{Axis}
use Rattle.geometry.specs.declared.face.OrientedBlockFace.{OrientedBlockFace}
use Rattle.geometry.specs.declared.face.Corner.{Corner}
use Rattle.geometry.specs.declared.face.Position.{Position}
use Rattle.geometry.specs.declared.face.QuadIndices.{QuadIndices}
use Rattle.geometry.specs.declared.face.TexCoord.{TexCoord}
use Rattle.geometry.specs.Point.{Point}
use Rattle.geometry.specs.Refusal.{Answer, accepted, refused, and_then}
use Rattle.geometry.specs.Face.{QuadNormals, quad_normals}
use Rattle.geometry.specs.Corners.{QuadCorners, quad_corners, quad_position}
use Rattle.geometry.specs.Vertices.{vertex, quad_indices}
use Rattle.geometry.specs.Textures.{QuadTexCoords, quad_textures}
use Rattle.spunmarrow.specs.Numbers.{quad_of, face_of, corner_of, axis_of}

-- All that a call leaves: the number that it answers, and its output at exit.
pub record Told (A : Type 0) : Type 0 where
  pub number : ℕ
  pub out : List A

-- The outcome of a number and an output.
abbrev pub told : {A : Type 0} → ℕ → List A → Told A
told number out = record { number = number; out = out }

-- A call answers the refusal number, or 0 where it is accepted, and a refusal leaves the output as it was: from how a value is written, the answer, and the output as it was.
abbrev pub written : {A B : Type 0} → (B → List A) → Answer B → List A → Told A
written numbers (accepted b) out = told 0 (numbers b)
written numbers (refused n p) out = told n out

-- ---- how values are written

-- A position's three numbers.
abbrev pub position_numbers : Position → List Float
position_numbers p = p.x ∷ p.y ∷ p.z ∷ []

-- A point's three numbers.
abbrev pub point_numbers : Point → List ℕ
point_numbers p = p.x ∷ p.y ∷ p.z ∷ []

-- Four corners' numbers, corner after corner.
abbrev pub corners_numbers : QuadCorners → List ℕ
corners_numbers c = point_numbers c.minu_minv ++ point_numbers c.maxu_minv ++ point_numbers c.minu_maxv ++ point_numbers c.maxu_maxv

-- The normal of a face, which all four corners have.
abbrev pub normal_numbers : QuadNormals → List Float
normal_numbers n = n.minu_minv.x ∷ n.minu_minv.y ∷ n.minu_minv.z ∷ []

-- Six vertex numbers.
abbrev pub indices_numbers : QuadIndices → List ℕ
indices_numbers i = i.0.0 ∷ i.1.0 ∷ i.2.0 ∷ i.3.0 ∷ i.4.0 ∷ i.5.0 ∷ []

-- A texture pair's two numbers.
abbrev pub pair_numbers : TexCoord → List Float
pair_numbers t = t.u ∷ t.v ∷ []

-- Four texture pairs' numbers, pair after pair.
abbrev pub pairs_numbers : QuadTexCoords → List Float
pairs_numbers t = pair_numbers t.minu_minv ++ pair_numbers t.maxu_minv ++ pair_numbers t.minu_maxv ++ pair_numbers t.maxu_maxv

-- ---- the calls

-- The position of a corner: 17, then 6, 12 and 14.
unfoldable pub corner_call : ℤ → ℕ → List ℕ → ℕ → Float → List Float → Told Float
corner_call sign permutation quad corner size out =
    written position_numbers
    (and_then (face_of sign permutation) (λ (f : OrientedBlockFace). and_then (corner_of corner) (λ (c : Corner). quad_position f (quad_of quad) c size)))
    out

-- The four corners: 17, then 6 and 12.
unfoldable pub corners_call : ℤ → ℕ → List ℕ → List ℕ → Told ℕ
corners_call sign permutation quad out =
    written corners_numbers (and_then (face_of sign permutation) (λ (f : OrientedBlockFace). quad_corners f (quad_of quad))) out

-- The normal: 17, then 6.
unfoldable pub normal_call : ℤ → ℕ → List Float → Told Float
normal_call sign permutation out = written normal_numbers (and_then (face_of sign permutation) (λ (f : OrientedBlockFace). quad_normals f)) out

-- The vertex numbers of two triangles: 17, then 6 and 13.
unfoldable pub indices_call : ℤ → ℕ → ℕ → List ℕ → Told ℕ
indices_call sign permutation start out =
    written indices_numbers (and_then (face_of sign permutation) (λ (f : OrientedBlockFace). quad_indices f (vertex start))) out

-- The four texture pairs: 17, then 6 and 12.
unfoldable pub tex_coords_call : ℤ → ℕ → ℕ → Bool → List ℕ → List Float → Told Float
tex_coords_call sign permutation u_flip_axis flip_v quad out =
    written pairs_numbers
    (and_then (face_of sign permutation) (λ (f : OrientedBlockFace). and_then (axis_of u_flip_axis) (λ (a : Axis). quad_textures f a flip_v (quad_of quad))))
    out
