use Rattle.std.proofs.Common.{◌≡◌, ◌-◌}
use Rattle.geometry.specs.Refusal.{checked}
use Rattle.voxels.specs.Loop.{every}
use Rattle.voxels.specs.Rows.{bad_at, row, rows}
use Rattle.voxels.proofs.Loops.{Underway}
use Rattle.voxels.proofs.bounds.check_each_row.Given as goal

abbrev pub invariant-loop-k : goal.invariant-loop-k
invariant-loop-k l = Underway l.step l.initial.i l.high l.k l.i × (checked (every l.step l.i (l.high - l.k) (row (bad_at l.voxels) l.wide)) ≡ checked (rows (bad_at l.voxels) l.wide l.step l.high l.initial.i))
