-- Corners and positions: document 01, 'Corners and vertex numbers'; face.rs lines 48 to 86.
use Rattle.std.specs.Prelude.{ℕ, pos, Float}
use Rattle.std.specs.Float.{binary32}
use Rattle.std.specs.Float.Ieee.{mul}
use Rattle.geometry.specs.declared.quad.UnorientedQuad.{UnorientedQuad}
use Rattle.geometry.specs.declared.face.OrientedBlockFace.{OrientedBlockFace}
use Rattle.geometry.specs.declared.face.Corner.{Corner}
use Rattle.geometry.specs.declared.face.Corner.TheVariants.{MinuMinv, MaxuMinv, MinuMaxv, MaxuMaxv}
use Rattle.geometry.specs.declared.face.PerCorner.{PerCorner}
use Rattle.geometry.specs.declared.face.Position.{Position}
use Rattle.geometry.specs.Point.{Point, moved}
use Rattle.geometry.specs.Axes.{positive, bit, n_axis, u_axis, v_axis}
use Rattle.geometry.specs.Checks.{quad_checks, position_checks}
use Rattle.geometry.specs.Face.{as_f32}
use Rattle.geometry.specs.Refusal.{Answer, answer}

-- ---- corners

-- "Base is the minimum, plus one on n if the sign is positive" (face.rs 70 to 74).
unfoldable pub base : OrientedBlockFace → UnorientedQuad → Point
base f q = moved (n_axis f) (bit (positive f.n_sign)) q.minimum

-- "Corners in order: base, +u width, +v height, both" (face.rs 67, 68 and 75 to 79).
unfoldable pub corner : OrientedBlockFace → UnorientedQuad → Corner → Point
corner f q MinuMinv = base f q
corner f q MaxuMinv = moved (u_axis f) q.width (base f q)
corner f q MinuMaxv = moved (v_axis f) q.height (base f q)
corner f q MaxuMaxv = moved (v_axis f) q.height (moved (u_axis f) q.width (base f q))

-- The corners of a quad, by name.
abbrev pub QuadCorners : Type 0
QuadCorners = PerCorner Point

-- The four corners of a quad (face.rs 79).
abbrev pub corners : OrientedBlockFace → UnorientedQuad → QuadCorners
corners f q =
    record {
      minu_minv = corner f q MinuMinv;
      maxu_minv = corner f q MaxuMinv;
      minu_maxv = corner f q MinuMaxv;
      maxu_maxv = corner f q MaxuMaxv;
    }

-- The same, of a face and a quad that pass (face.rs 66 to 80).
unfoldable pub quad_corners : OrientedBlockFace → UnorientedQuad → Answer QuadCorners
quad_corners f q = answer (quad_checks f q) (corners f q)

-- ---- positions

-- "one f32 product of the voxel size and the corner's coordinate, rounded once, as IEEE 754 says; infinity may result" (face.rs 83 to 86). The
-- coordinate of a quad that passes is cast exactly, so the product's is the one rounding; and no position that is given has a NaN (proofs/Accepted.antt,
-- `accepted_position` and `accepted_positions`).
abbrev pub product : Float → ℕ → Float
product size c = mul binary32 size (as_f32 (pos c))

-- A point's position: one product for each coordinate (face.rs 85).
abbrev pub position : Float → Point → Position
position size p = record { x = product size p.x; y = product size p.y; z = product size p.z }

-- The positions of a quad's corners, by the corner's name.
abbrev pub QuadPositions : Type 0
QuadPositions = PerCorner Position

-- The positions of the four corners (face.rs 84 and 85).
abbrev pub positions : OrientedBlockFace → UnorientedQuad → Float → QuadPositions
positions f q size =
    record {
      minu_minv = position size (corner f q MinuMinv);
      maxu_minv = position size (corner f q MaxuMinv);
      minu_maxv = position size (corner f q MinuMaxv);
      maxu_maxv = position size (corner f q MaxuMaxv);
    }

-- The same, of a face, a quad and a size that pass.
unfoldable pub quad_positions : OrientedBlockFace → UnorientedQuad → Float → Answer QuadPositions
quad_positions f q size = answer (position_checks f q size) (positions f q size)

-- "The drawing code asks for a corner as one of four cases": the position of that corner.
unfoldable pub quad_position : OrientedBlockFace → UnorientedQuad → Corner → Float → Answer Position
quad_position f q c size = answer (position_checks f q size) (position size (corner f q c))
