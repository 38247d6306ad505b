-- `mark_quad` meets its contract: each turn marks one row more of the rectangle.
use Rattle.greedy.specs.Marks.{mark_row_at, mark_quad_at}
use Rattle.greedy.proofs.Steps.{steps_none, steps_next}
use Rattle.greedy.proofs.visited.mark_quad.Goals as goal

pub loop-k-init : goal.loop-k-init
unfolding mark_quad_at
loop-k-init c = steps_none _ _ _ _ _

pub loop-k-preserved : goal.loop-k-preserved
unfolding mark_row_at mark_quad_at
loop-k-preserved c = steps_next _ _ _ _ _ _ _ _ c.loop-k.invariant c.mark_row.ensures
