-- What is shown of a quad for whoever draws it: document 01, 'Corners and vertex numbers' and 'Refusal numbers' ("Quad limits"). A quad within the limits, on a face whose sign is
-- proper, is `Drawn` (proofs/Drawn.antt, `drawn`). Every quad that a mesher lists is (`unit_drawn` and `greedy_drawn`, crates/rules/proofs/Drawn.antt).
use Rattle.std.specs.Prelude.{Bool, true, false, ◌≡◌, ◌≤◌, ◌*ℤ◌, Float}
use Rattle.std.specs.Float.Ieee.{is_nan}
use Rattle.geometry.specs.declared.axis.Axis.{Axis}
use Rattle.geometry.specs.declared.quad.UnorientedQuad.{UnorientedQuad}
use Rattle.geometry.specs.declared.face.OrientedBlockFace.{OrientedBlockFace}
use Rattle.geometry.specs.declared.face.Corner.{Corner}
use Rattle.geometry.specs.declared.face.Position.{Position}
use Rattle.geometry.specs.declared.face.VertexIndex.{VertexIndex}
use Rattle.geometry.specs.Refusal.{accepted}
use Rattle.geometry.specs.Point.{Point}
use Rattle.geometry.specs.Axes.{positive, permutation_sign, axes_of}
use Rattle.geometry.specs.Quad.{quad_of_unit, within_limits}
use Rattle.geometry.specs.Checks.{last_start, not_finite}
use Rattle.geometry.specs.Face.{normal, normal_as_f32, four_normals, quad_normals}
use Rattle.geometry.specs.Corners.{corner, corners, quad_corners, position, positions, quad_positions, quad_position}
use Rattle.geometry.specs.Vertices.{indices, quad_indices}
use Rattle.geometry.specs.Textures.{flips_u, pairs, quad_textures}

-- The unit quad of a voxel, as a quad.
abbrev pub unit_quad_at : Point → UnorientedQuad
unit_quad_at p = quad_of_unit (record { minimum = p })

-- No part of a position is NaN. Then its bits are fixed, since every other number has bits of its own.
abbrev pub NoNan : Position → Type 0
NoNan p = (is_nan p.x ≡ false) × (is_nan p.y ≡ false) × (is_nan p.z ≡ false)

-- A quad on a face can be drawn: its corners, texture pairs, positions, normals and indices are given and not refused, and each answer is the value that document 01 gives.
pub record Drawn (f : OrientedBlockFace) (q : UnorientedQuad) : Type 0 where
  -- It is within the quad limits, so that 12 does not refuse it.
  pub within_limits_lem : within_limits (axes_of f.permutation) q ≡ true
  -- Its four corners are given,
  pub corners_given : quad_corners f q ≡ accepted (corners f q)
  -- its texture pairs, whichever face has its u flipped and whether v is,
  pub textures_given : (u_flip_face : Axis) (flip_v : Bool) → quad_textures f u_flip_face flip_v q ≡ accepted (pairs (flips_u f u_flip_face) flip_v q.width q.height)
  -- its positions, at any finite voxel size,
  pub positions_given : (size : Float) → not_finite size ≡ false → quad_positions f q size ≡ accepted (positions f q size)
  -- and each one of them by itself;
  pub position_given : (c : Corner) (size : Float) → not_finite size ≡ false → quad_position f q c size ≡ accepted (position size (corner f q c))
  -- of its face alone, the normals,
  pub normals_given : quad_normals f ≡ accepted (four_normals (normal_as_f32 (normal f)))
  -- and the indices, from any first index up to the last that leaves room for three more.
  pub indices_given : (s : VertexIndex) → s.0 ≤ last_start → quad_indices f s ≡ accepted (indices (positive (f.n_sign *ℤ permutation_sign f.permutation)) s.0)
