-- `VoxelIndex::linearize` meets its contract: a remainder may be taken at each step.
use Rattle.std.proofs.Common.{zero-add}
use Rattle.voxels.specs.Shape.{index}
use Rattle.voxels.proofs.Numbers.{mod_sum}
use Rattle.voxels.proofs.index.VoxelIndex.linearize.Goals as goal

pub returns : goal.returns
unfolding index
returns c = rw (c.add_product.ensures, c.add_product-xy.ensures, c.add_product-row.ensures, zero-add) (mod_sum _ _ _ _)
