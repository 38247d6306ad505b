use Rattle.std.proofs.Common.{◌≡◌}
use Rattle.greedy.specs.Marks.{mark_row_at}
use Rattle.greedy.proofs.visited.mark_row.Given as goal

abbrev pub invariant-loop-k : goal.invariant-loop-k
invariant-loop-k l = l.visited ≡ mark_row_at l.u_stride.0 l.k l.initial.visited 0 l.start.0
