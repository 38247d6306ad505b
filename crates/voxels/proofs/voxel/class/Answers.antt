-- `class` meets its contract.
use Rattle.std.proofs.Common.{refl}
use Rattle.voxels.specs.Voxel.{class}
use Rattle.voxels.proofs.voxel.class.Goals as goal

pub returns : goal.returns
unfolding class
returns c = refl
