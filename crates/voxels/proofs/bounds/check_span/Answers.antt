-- `check_span` meets its contract.
use Rattle.geometry.specs.Point.{along}
use Rattle.voxels.proofs.bounds.check_span.Goals as goal

pub returns : goal.returns
unfolding along
returns c = c.check_axes.ensures
