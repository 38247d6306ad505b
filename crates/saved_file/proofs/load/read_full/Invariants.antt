-- `load::read_full` ends, since each turn leaves less to fill.
use Rattle.std.proofs.Common.{◌≡◌, ◌-◌, ◌≤◌, ◌<◌, ◌^◌, length}
use Rattle.saved_file.proofs.load.read_full.Given as goal

abbrev pub invariant-loop-done : goal.invariant-loop-done
invariant-loop-done g l = (length l.bytes ≡ length l.initial.bytes) × (l.done ≤ length l.bytes) × (length l.bytes < 2 ^ 64)

abbrev pub decreases-loop-done : goal.decreases-loop-done
decreases-loop-done g l = length l.bytes - l.done
