use Rattle.std.proofs.Common.{◌-◌}
use Rattle.voxels.specs.Rows.{AtMost}
use Rattle.voxels.proofs.bounds.greatest.Given as goal

abbrev pub invariant-loop-i : goal.invariant-loop-i
invariant-loop-i l = AtMost l.voxels l.first (l.i - l.first) l.most
