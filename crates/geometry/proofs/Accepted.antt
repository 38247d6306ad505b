-- What an accepted call is known to give: corners within the largest axis, and positions whose bits are fixed.
use mathlib.Core.Bool.{false}
use mathlib.Core.List.{[], ◌∷◌}
use mathlib.Core.Path.{◌≡◌}
use lib.Ieee.{Float}
use Rattle.geometry.specs.declared.axis.Axis.TheVariants.{X, Y, Z}
use Rattle.geometry.specs.declared.quad.UnorientedQuad.{UnorientedQuad}
use Rattle.geometry.specs.declared.face.OrientedBlockFace.{OrientedBlockFace}
use Rattle.geometry.specs.declared.face.Corner.{Corner}
use Rattle.geometry.specs.declared.face.Corner.TheVariants.{MinuMinv, MaxuMinv, MinuMaxv, MaxuMaxv}
use Rattle.geometry.specs.declared.face.Position.{Position}
use Rattle.geometry.specs.Refusal.{accepted, checked}
use Rattle.geometry.specs.Point.{along}
use Rattle.geometry.specs.Quad.{largest_axis}
use Rattle.geometry.specs.Checks.{bad_sign, bad_quad, bad_size, quad_checks, position_checks, not_finite}
use Rattle.geometry.specs.Corners.{QuadCorners, QuadPositions, corner, quad_corners, position, quad_positions, quad_position}
use Rattle.geometry.specs.Inner.{AtMost}
use Rattle.geometry.specs.Statements.{NoNan}
use Rattle.geometry.proofs.Refusals.{first_passes, rest_accepts, accepts_value, accepts_checked}
use Rattle.geometry.proofs.Limits.{quad_within_bounds}
use Rattle.geometry.proofs.Corners.{corner_at_most}
use Rattle.geometry.proofs.Floats.{product_no_nan}

module _ (f : OrientedBlockFace) (q : UnorientedQuad) where
  -- No corner of an accepted quad is past the largest axis on any axis.
  pub accepted_corner : {k : QuadCorners} → quad_corners f q ≡ accepted k → (c : Corner) → AtMost largest_axis (corner f q c)
  unfolding quad_corners
  accepted_corner h = corner_at_most f q (quad_within_bounds f q [] (accepts_checked (quad_checks f q) _ h))

  -- No part of any corner's position is NaN where the checks pass.
  no_nan : (size : Float) → checked (position_checks f q size) ≡ accepted tt → (c : Corner) → NoNan (position size (corner f q c))
  unfolding along
  no_nan size passed c =
      let most = corner_at_most f q (quad_within_bounds f q (bad_size size ∷ []) passed) c in
      let finite : not_finite size ≡ false =
      first_passes (bad_size size) [] tt (rest_accepts (bad_quad f q) (bad_size size ∷ []) tt (rest_accepts (bad_sign f) (bad_quad f q ∷ bad_size size ∷ []) tt passed)) in
      (product_no_nan size finite _ (most X), product_no_nan size finite _ (most Y), product_no_nan size finite _ (most Z))

  -- No part of an accepted position is NaN: so the promise fixes the bits of each.
  pub accepted_position : (c : Corner) (size : Float) {p : Position} → quad_position f q c size ≡ accepted p → NoNan p
  unfolding quad_position
  accepted_position c size h = rw (← accepts_value (position_checks f q size) _ h) (no_nan size (accepts_checked (position_checks f q size) _ h) c)

  -- Nor is one of the four that are given together.
  pub accepted_positions : (size : Float) {p : QuadPositions} → quad_positions f q size ≡ accepted p
      → NoNan p.minu_minv × NoNan p.maxu_minv × NoNan p.minu_maxv × NoNan p.maxu_maxv
  unfolding quad_positions
  accepted_positions size h =
      let each = no_nan size (accepts_checked (position_checks f q size) _ h) in
      rw (← accepts_value (position_checks f q size) _ h) (each MinuMinv, each MaxuMinv, each MinuMaxv, each MaxuMaxv)
