-- `count_quads` meets its contract: each count is taken off what is left of the room.
use Rattle.writing.proofs.Taking.{taking_start, taking_past, taking_on, taking_done}
use Rattle.writing.proofs.handed.count_quads.Goals as goal

pub loop-count-init : goal.loop-count-init
loop-count-init c = taking_start c.well_formed.0.1.0.1

pub returns-then-left-count : goal.returns-then-left-count
returns-then-left-count c = rw c.at.ensures (taking_past c.loop-count.invariant c.loop-count-test.true c.if-left-count.true)

pub loop-count-preserved : goal.loop-count-preserved
loop-count-preserved c = taking_on c.loop-count.invariant c.loop-count-test.true c.if-left-count.false

pub overflow_sub-result : goal.overflow_sub-result
overflow_sub-result c = c.loop-count.invariant.less

pub returns : goal.returns
returns c = taking_done c.loop-count.invariant c.loop-count-test.false
