-- `count_row` meets its contract: what the voxels so far show is counted.
use native.Mathlib.Omega.{arith}
use Rattle.simple.specs.Ready.{offset_of, VoxelReady}
use Rattle.simple.specs.Count.{row_shown}
use Rattle.simple.proofs.Totals.{voxel_at_most}
use Rattle.simple.proofs.Counting.{row_can, counting_start, counting_can, counting_on, counting_done}
use Rattle.simple.proofs.block.Block.count_row.Goals as goal

pub loop-k-init : goal.loop-k-init
loop-k-init c = counting_start c.requires.room.all

pub count_voxel-requires : goal.count_voxel-requires
count_voxel-requires c =
    let a = c.args in
    counting_can c.loop-k.invariant c.loop-k-test.true (omega arith) (VoxelReady a.self.now.voxels.now) (row_can c.requires) (λ f. voxel_at_most a.self.now.voxels.now (offset_of a.self.now.strides f))

pub loop-k-preserved : goal.loop-k-preserved
loop-k-preserved c = counting_on c.loop-k.invariant c.loop-k-test.true (omega arith) c.count_voxel.ensures

pub returns : goal.returns
unfolding row_shown
returns c = counting_done c.loop-k.invariant c.loop-k-test.false
