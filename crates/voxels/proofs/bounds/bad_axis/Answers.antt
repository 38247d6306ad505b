-- `bad_axis` meets its contract.
use Rattle.std.proofs.Common.{eq-eqb, ne_eqb}
use Rattle.voxels.specs.Checks.{bad_axis}
use Rattle.voxels.proofs.bounds.bad_axis.Goals as goal

pub returns-then-n-eq0 : goal.returns-then-n-eq0
unfolding bad_axis
returns-then-n-eq0 c = rw (eq-eqb _ _ c.if-n-eq0.true)

pub returns : goal.returns
unfolding bad_axis
returns c = rw (ne_eqb _ _ c.if-n-eq0.false)
