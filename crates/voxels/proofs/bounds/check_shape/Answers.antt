-- `check_shape` meets its contract: `bad_axis` says on each axis what the rule asks.
use Rattle.geometry.specs.Point.{along}
use Rattle.voxels.proofs.bounds.check_shape.Goals as goal

pub returns : goal.returns
unfolding along
returns c = rw (c.bad_axis.ensures, c.bad_axis-2.ensures, c.bad_axis-3.ensures) at c.check_axes.ensures
