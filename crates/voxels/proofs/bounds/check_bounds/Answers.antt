-- `check_bounds` meets its contract: five checks, joined in their order.
use Rattle.geometry.proofs.Orders.{first_follows, asked_in_turn}
use Rattle.voxels.specs.Checks.{bounds_checks}
use Rattle.voxels.proofs.bounds.check_bounds.Goals as goal

pub returns : goal.returns
unfolding bounds_checks
returns c =
    asked_in_turn _ _
    (asked_in_turn _ _
    (asked_in_turn _ _
    (asked_in_turn _ _ c.check_shape-shape.ensures c.check_voxel_count.ensures (first_follows _ _ c.first_refusal-counted.ensures))
    c.check_min.ensures (first_follows _ _ c.first_refusal-ordered.ensures))
    c.check_max.ensures (first_follows _ _ c.first_refusal-inside.ensures))
    c.check_span.ensures (first_follows _ _ c.first_refusal.ensures)
