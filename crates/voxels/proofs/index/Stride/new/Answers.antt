-- `Stride::new` meets its contract: the index of a unit vector is the stride.
use Rattle.voxels.proofs.Places.{unit_index}
use Rattle.voxels.proofs.index.Stride.new.Goals as goal

pub returns : goal.returns
returns c = rw (c.get_unit_vector.ensures, unit_index) at c.linearize-index.ensures
