-- `tight` meets its contract. Its loop writes the digits from the last to the first: those to come, before those written, are the number's.
use mathlib.Core.Path.{◌∙◌}
use native.Mathlib.Omega.{arith}
use Rattle.digits.proofs.Written.{writing_starts, writing_on, writing_done, spelled_short, spelled_fits}
use Rattle.digits.proofs.tight.Goals as goal

pub returns-then-out-count : goal.returns-then-out-count
returns-then-out-count c = spelled_short _ _ (omega arith)

pub loop-at-init : goal.loop-at-init
loop-at-init c = writing_starts _ _ _ c.places-count.ensures

pub loop-at-preserved : goal.loop-at-preserved
loop-at-preserved c = let l = c.loop-at in writing_on l.at l.rest l.out (omega arith) (omega arith) ∙ l.invariant

pub returns : goal.returns
returns c = spelled_fits _ _ _ c.places-count.ensures (omega arith) (writing_done _ _ _ _ (omega arith) c.loop-at.invariant)
