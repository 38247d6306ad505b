-- `step` meets its contract: each arm is given which axis it is, and the sum there is the one that is required to fit.
use mathlib.Core.Path.{ap}
use native.Mathlib.Omega.{arith}
use Rattle.geometry.specs.Point.{along, put, moved}
use Rattle.geometry.specs.declared.axis.Axis.{Axis}
use Rattle.geometry.proofs.placed.step.Goals as goal

pub overflow_add-result : goal.overflow_add-result
unfolding along put moved
overflow_add-result c = omega (arith, ap (λ (a : Axis). along a c.args.p) c.in-X.is)

pub overflow_add-result-in-Y : goal.overflow_add-result-in-Y
unfolding along put moved
overflow_add-result-in-Y c = omega (arith, ap (λ (a : Axis). along a c.args.p) c.in-Y.is)

pub overflow_add-result-in-Z : goal.overflow_add-result-in-Z
unfolding along put moved
overflow_add-result-in-Z c = omega (arith, ap (λ (a : Axis). along a c.args.p) c.in-Z.is)

pub returns-in-X : goal.returns-in-X
unfolding along put moved
returns-in-X c = simp c.in-X.is

pub returns-in-Y : goal.returns-in-Y
unfolding along put moved
returns-in-Y c = simp c.in-Y.is

pub returns-in-Z : goal.returns-in-Z
unfolding along put moved
returns-in-Z c = simp c.in-Z.is
