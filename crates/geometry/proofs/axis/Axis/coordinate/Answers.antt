-- `Axis::coordinate` meets its contract: each arm is given which axis it is.
use Rattle.geometry.specs.Point.{along}
use Rattle.geometry.proofs.axis.Axis.coordinate.Goals as goal

pub returns-in-X : goal.returns-in-X
unfolding along
returns-in-X c = simp c.in-X.is

pub returns-in-Y : goal.returns-in-Y
unfolding along
returns-in-Y c = simp c.in-Y.is

pub returns-in-Z : goal.returns-in-Z
unfolding along
returns-in-Z c = simp c.in-Z.is
