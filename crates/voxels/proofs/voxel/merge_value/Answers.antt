-- `merge_value` meets its contract.
use Rattle.std.proofs.Common.{refl}
use Rattle.voxels.specs.Voxel.{merge_value}
use Rattle.voxels.proofs.voxel.merge_value.Goals as goal

pub returns : goal.returns
unfolding merge_value
returns c = refl
