use Rattle.std.proofs.Common.{◌≡◌, ◌-◌}
use Rattle.geometry.specs.Refusal.{checked}
use Rattle.voxels.specs.Loop.{every}
use Rattle.voxels.specs.Rows.{bad_at, row}
use Rattle.voxels.proofs.bounds.first_bad.Given as goal

abbrev pub invariant-loop-i : goal.invariant-loop-i
invariant-loop-i l = checked (every 1 l.i (l.end - l.i) (bad_at l.voxels)) ≡ checked (row (bad_at l.voxels) l.wide l.first)
