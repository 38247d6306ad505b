-- Quads: document 01, 'Refusal numbers' ("Quad limits"); quad.rs. The Rust has no limits.
use Rattle.std.specs.Prelude.{Bool, ◌&&◌, ℕ, ◌+◌, ◌-◌, leb}
use Rattle.geometry.specs.declared.quad.UnorientedQuad.{UnorientedQuad}
use Rattle.geometry.specs.declared.quad.UnorientedUnitQuad.{UnorientedUnitQuad}
use Rattle.geometry.specs.declared.axis.Axes.{Axes}
use Rattle.geometry.specs.Point.{Point, along}

-- The largest axis of a shape. Every limit on coordinates follows from it.
abbrev pub largest_axis : ℕ
largest_axis = 256

-- The quad that a unit quad is (quad.rs 17 to 26).
abbrev pub quad_of_unit : UnorientedUnitQuad → UnorientedQuad
quad_of_unit u = record { minimum = u.minimum; width = 1; height = 1 }

-- "minimum at most 255 on each axis"
unfoldable pub minimum_within_limits : Point → Bool
minimum_within_limits p = leb p.x (largest_axis - 1) && leb p.y (largest_axis - 1) && leb p.z (largest_axis - 1)

-- "width and height at least 1, minimum plus width on u and minimum plus height on v at most 256": of one side, from the minimum's coordinate on.
unfoldable pub side_within_limits : ℕ → ℕ → Bool
side_within_limits from side = leb 1 side && leb (from + side) largest_axis

-- The quad limits, along a face's own u and v.
unfoldable pub within_limits : Axes → UnorientedQuad → Bool
within_limits a q =
    minimum_within_limits q.minimum
    && side_within_limits (along a.u q.minimum) q.width
    && side_within_limits (along a.v q.minimum) q.height
