-- `mark_row` meets its contract: each turn marks one voxel more of the row.
use Rattle.std.proofs.Common.{refl}
use Rattle.greedy.specs.Marks.{mark_row_at}
use Rattle.greedy.proofs.Steps.{steps_none, steps_next}
use Rattle.greedy.proofs.visited.mark_row.Goals as goal

pub loop-k-init : goal.loop-k-init
unfolding mark_row_at
loop-k-init c = steps_none _ _ _ _ _

pub loop-k-preserved : goal.loop-k-preserved
unfolding mark_row_at
loop-k-preserved c = steps_next _ _ _ _ _ _ _ _ c.loop-k.invariant refl
