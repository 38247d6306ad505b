-- `uniform` meets its contract: it compares what `merge_value` gives.
use Rattle.voxels.specs.Voxel.{uniform}
use Rattle.voxels.proofs.voxel.uniform.Goals as goal

pub returns : goal.returns
unfolding uniform
returns c = rw (c.merge_value.ensures, c.merge_value-2.ensures)
