use Rattle.writing.proofs.Taking.{Taking}
use Rattle.writing.proofs.handed.count_quads.Given as goal

abbrev pub invariant-loop-count : goal.invariant-loop-count
invariant-loop-count l = Taking l.room l.fn.counts l.left l.count-index
