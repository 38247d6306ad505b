-- `check_max` meets its contract.
use Rattle.geometry.specs.Point.{along}
use Rattle.voxels.proofs.bounds.check_max.Goals as goal

pub returns : goal.returns
unfolding along
returns c = c.check_axes.ensures
