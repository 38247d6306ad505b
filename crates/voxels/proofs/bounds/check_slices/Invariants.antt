use Rattle.std.proofs.Common.{◌≡◌, ◌-◌}
use Rattle.geometry.specs.Refusal.{checked}
use Rattle.voxels.specs.Loop.{every}
use Rattle.voxels.specs.Rows.{bad_at, rows, slices}
use Rattle.voxels.proofs.Loops.{Underway}
use Rattle.voxels.proofs.bounds.check_slices.Given as goal

abbrev pub invariant-loop-k : goal.invariant-loop-k
invariant-loop-k l = Underway l.step l.initial.i l.deep l.k l.i × (checked (every l.step l.i (l.deep - l.k) (rows (bad_at l.voxels) l.wide l.y_stride.0 l.high)) ≡ checked (slices (bad_at l.voxels) l.wide l.y_stride.0 l.high l.step l.deep l.initial.i))
