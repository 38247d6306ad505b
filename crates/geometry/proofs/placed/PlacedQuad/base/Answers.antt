-- `PlacedQuad::base` meets its contract. The step fits, since the minimum is below the largest axis.
use Rattle.geometry.specs.Axes.{n_axis}
use mathlib.Core.Path.{sym}
use native.Mathlib.Omega.{arith}
use Rattle.geometry.proofs.Corners.{base_up, base_down}
use Rattle.geometry.proofs.placed.PlacedQuad.base.Goals as goal

pub step-requires : goal.step-requires
step-requires c =
    let a = c.args in
    rw c.axes-axes.ensures (omega (arith, c.args.self.within.least (n_axis a.self.face)))

pub returns-then-is_positive : goal.returns-then-is_positive
returns-then-is_positive c =
    let a = c.args in
    rw (c.step.ensures, c.axes-axes.ensures) (sym (base_up a.self.face a.self.quad (sym c.if-is_positive.ensures)))

pub returns-else-is_positive : goal.returns-else-is_positive
returns-else-is_positive c =
    let a = c.args in
    sym (base_down a.self.face a.self.quad (sym c.if-is_positive.ensures))
