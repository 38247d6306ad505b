-- Laws of the quad limits.
use mathlib.Core.Bool.{Bool, true, not, ◌&&◌}
use mathlib.Core.List.{List, [], ◌∷◌}
use mathlib.Core.Path.{◌≡◌}
use Prim.Native.Nat.{ℕ, ◌+◌, ◌-◌, ◌≤◌}
use lib.Dec.{leb}
use borrow.Author.Tests.{leb-true, le-leb, ltb-false, not-false}
use Rattle.geometry.specs.declared.axis.Axis.TheVariants.{X, Y, Z}
use Rattle.geometry.specs.declared.face.VertexIndex.{VertexIndex}
use Rattle.geometry.specs.declared.axis.Axes.{Axes}
use Rattle.geometry.specs.declared.quad.UnorientedQuad.{UnorientedQuad}
use Rattle.geometry.specs.Point.{Point, along}
use Rattle.geometry.specs.Quad.{largest_axis, minimum_within_limits, side_within_limits, within_limits}
use Rattle.geometry.specs.Axes.{axes_of, u_axis, v_axis}
use Rattle.geometry.specs.Checks.{proper_sign, bad_sign, bad_quad, bad_start, last_start, index_checks}
use Rattle.geometry.specs.Refusal.{accepted, Check, checked}
use Rattle.geometry.proofs.Refusals.{first_passes, rest_accepts}
use Rattle.geometry.proofs.Tests.{both_true}
use Rattle.geometry.specs.declared.face.OrientedBlockFace.{OrientedBlockFace}
use Rattle.geometry.specs.Inner.{AtMost, WithinBounds}

-- The limits hold or not as their three tests do.
pub limits_tested : (a : Axes) (q : UnorientedQuad) {m w h : Bool}
    → minimum_within_limits q.minimum ≡ m
    → side_within_limits (along a.u q.minimum) q.width ≡ w
    → side_within_limits (along a.v q.minimum) q.height ≡ h
    → not (within_limits a q) ≡ not (m && w && h)
unfolding within_limits
limits_tested a q em ew eh = simp (em, ew, eh)

-- ---- what a quad within the limits is known to keep

-- Of the minimum,
voxel_at_most : (p : Point) → minimum_within_limits p ≡ true → AtMost (largest_axis - 1) p
unfolding minimum_within_limits along
voxel_at_most p h =
    let most : ℕ → Bool = λ k. leb k (largest_axis - 1) in
    let (xy, z) = both_true (most p.x && most p.y) (most p.z) h in
    let (x, y) = both_true (most p.x) (most p.y) xy in
    elim [ X ↦ leb-true _ _ x | Y ↦ leb-true _ _ y | Z ↦ leb-true _ _ z ]

-- of a side,
side_at_most : (from side : ℕ) → side_within_limits from side ≡ true → from + side ≤ largest_axis
unfolding side_within_limits
side_at_most from side h = leb-true _ _ (both_true (leb 1 side) (leb (from + side) largest_axis) h).1

-- and of the quad.
pub limits_bounds : (f : OrientedBlockFace) (q : UnorientedQuad) → within_limits (axes_of f.permutation) q ≡ true → WithinBounds f q
unfolding within_limits
limits_bounds f q h =
    let w = side_within_limits (along (u_axis f) q.minimum) q.width in
    let t = side_within_limits (along (v_axis f) q.minimum) q.height in
    let (both, high) = both_true (minimum_within_limits q.minimum && w) t h in
    let (least, wide) = both_true (minimum_within_limits q.minimum) w both in
    record { least = voxel_at_most _ least; wide = side_at_most _ _ wide; high = side_at_most _ _ high }

-- A quad with sides that keeps to the bounds is within the limits.
pub bounds_limits : (f : OrientedBlockFace) (q : UnorientedQuad) → WithinBounds f q → 1 ≤ q.width → 1 ≤ q.height → within_limits (axes_of f.permutation) q ≡ true
unfolding within_limits minimum_within_limits side_within_limits along
bounds_limits f q b some_width some_height =
    let x = le-leb q.minimum.x (largest_axis - 1) (b.least X) in
    let y = le-leb q.minimum.y (largest_axis - 1) (b.least Y) in
    let z = le-leb q.minimum.z (largest_axis - 1) (b.least Z) in
    rw (x, y, z, le-leb 1 q.width some_width, le-leb _ largest_axis b.wide, le-leb 1 q.height some_height, le-leb _ largest_axis b.high)

-- ---- what an order that has passed tells

module _ (f : OrientedBlockFace) where
  -- 6 has passed: the sign is proper.
  pub sign_proper : (cs : List Check) → checked (bad_sign f ∷ cs) ≡ accepted tt → proper_sign f.n_sign ≡ true
  sign_proper cs h = not-false _ (first_passes (bad_sign f) cs tt h)

  -- 6 and 12 have passed: the quad is within bounds.
  pub quad_within_bounds : (q : UnorientedQuad) (cs : List Check) → checked (bad_sign f ∷ bad_quad f q ∷ cs) ≡ accepted tt → WithinBounds f q
  quad_within_bounds q cs h =
      limits_bounds f q (not-false _ (first_passes (bad_quad f q) cs tt (rest_accepts (bad_sign f) (bad_quad f q ∷ cs) tt h)))

  -- 6 and 13 have passed: three more than the first index fits.
  pub start_small : (s : VertexIndex) → checked (index_checks f s) ≡ accepted tt → s.0 ≤ last_start
  start_small s h = ltb-false last_start s.0 (first_passes (bad_start s) [] tt (rest_accepts (bad_sign f) (bad_start s ∷ []) tt h))
