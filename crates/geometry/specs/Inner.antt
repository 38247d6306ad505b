-- What private functions require and promise. No public contract uses these.
use Rattle.std.specs.Prelude.{ℕ, ◌+◌, ◌-◌, ◌≤◌}
use Rattle.geometry.specs.declared.axis.Axis.{Axis}
use Rattle.geometry.specs.declared.quad.UnorientedQuad.{UnorientedQuad}
use Rattle.geometry.specs.declared.face.OrientedBlockFace.{OrientedBlockFace}
use Rattle.geometry.specs.Point.{Point, along}
use Rattle.geometry.specs.Axes.{u_axis, v_axis}
use Rattle.geometry.specs.Quad.{largest_axis}

-- No coordinate of the point is above k.
abbrev pub AtMost : ℕ → Point → Type 0
AtMost k p = (a : Axis) → along a p ≤ k

-- The upper bounds among the quad limits.
pub record WithinBounds (f : OrientedBlockFace) (q : UnorientedQuad) : Type 0 where
  pub least : AtMost (largest_axis - 1) q.minimum
  pub wide : along (u_axis f) q.minimum + q.width ≤ largest_axis
  pub high : along (v_axis f) q.minimum + q.height ≤ largest_axis
