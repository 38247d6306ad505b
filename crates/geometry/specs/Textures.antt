-- Texture pairs: document 01, 'Corners and vertex numbers'; face.rs lines 104 to 159.
use Rattle.std.specs.Prelude.{Bool, true, false, not, ◌&&◌, ◌||◌, ℕ, pos}
use Rattle.geometry.specs.declared.axis.Axis.{Axis}
use Rattle.geometry.specs.declared.quad.UnorientedQuad.{UnorientedQuad}
use Rattle.geometry.specs.declared.face.OrientedBlockFace.{OrientedBlockFace}
use Rattle.geometry.specs.declared.face.TexCoord.{TexCoord}
use Rattle.geometry.specs.declared.face.PerCorner.{PerCorner}
use Rattle.geometry.specs.Point.{same_axis}
use Rattle.geometry.specs.Axes.{positive, negative, n_axis}
use Rattle.geometry.specs.Checks.{quad_checks}
use Rattle.geometry.specs.Face.{as_f32}
use Rattle.geometry.specs.Refusal.{Answer, answer}

-- "u is flipped when the sign is negative and `u_flip_face` differs from the normal axis, or the sign is positive and it equals it" (face.rs 126 to 131).
unfoldable pub flips_u : OrientedBlockFace → Axis → Bool
flips_u f u_flip_face =
    (negative f.n_sign && not (same_axis u_flip_face (n_axis f))) || (positive f.n_sign && same_axis u_flip_face (n_axis f))

-- A texture coordinate along a side: 0 at its near end, its length at its far end. With no flip the minimum end is near and the maximum end far; a flip
-- swaps them.
abbrev pub side_end : Bool → ℕ → ℕ
side_end false side = 0
side_end true side = side

-- A texture pair as f32 numbers (face.rs 134 to 157, `as f32`).
abbrev pub pair : ℕ → ℕ → TexCoord
pair a b = record { u = as_f32 (pos a); v = as_f32 (pos b) }

-- The texture pairs of a quad's corners, by the corner's name.
abbrev pub QuadTexCoords : Type 0
QuadTexCoords = PerCorner TexCoord

-- "no flip: (0,0), (w,0), (0,h), (w,h). Flip u swaps 0 and w; flip v swaps 0 and h." (face.rs 133 to 158).
abbrev pub pairs : Bool → Bool → ℕ → ℕ → QuadTexCoords
pairs flip_u flip_v w h =
    record {
      minu_minv = pair (side_end flip_u w) (side_end flip_v h);
      maxu_minv = pair (side_end (not flip_u) w) (side_end flip_v h);
      minu_maxv = pair (side_end flip_u w) (side_end (not flip_v) h);
      maxu_maxv = pair (side_end (not flip_u) w) (side_end (not flip_v) h);
    }

-- The texture pairs of the four corners, of a face and a quad that pass (face.rs 120 to 159).
unfoldable pub quad_textures : OrientedBlockFace → Axis → Bool → UnorientedQuad → Answer QuadTexCoords
quad_textures f u_flip_face flip_v q =
    answer (quad_checks f q) (pairs (flips_u f u_flip_face) flip_v q.width q.height)
