-- `scan_slice` meets its contract: what is scanned so far is the first part of the slice.
use Rattle.std.proofs.Common.{arith}
use Rattle.greedy.specs.Scans.{slice_along}
use Rattle.greedy.proofs.Scanning.{scan_start, scan_on, scan_done}
use Rattle.greedy.proofs.Mesher.scan_slice.Goals as goal

pub loop-k-init : goal.loop-k-init
loop-k-init c = scan_start c.requires.room_for.0

pub loop-k-preserved : goal.loop-k-preserved
loop-k-preserved c = scan_on c.loop-k.invariant c.scan_row.ensures.same_call c.scan_row.ensures.scanned

pub returns-clause-scanned : goal.returns-clause-scanned
unfolding slice_along
returns-clause-scanned c = scan_done c.loop-k.invariant (omega (arith, c.loop-k.auto.k-end, c.loop-k-test.false))
