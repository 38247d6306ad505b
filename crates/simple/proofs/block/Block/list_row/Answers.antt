-- `list_row` meets its contract: what is listed and what is left make the whole row.
use native.Mathlib.Omega.{arith}
use Rattle.geometry.specs.Point.{at}
use Rattle.simple.specs.Ready.{offset_of, VoxelReady}
use Rattle.simple.specs.List.{row_quads}
use Rattle.simple.proofs.Totals.{voxel_at_most, voxel_length}
use Rattle.simple.proofs.Counting.{row_can, counting_can}
use Rattle.simple.proofs.Cursors.{runs_start, runs_on, runs_done}
use Rattle.simple.proofs.block.Block.list_row.Goals as goal

pub loop-k-init : goal.loop-k-init
loop-k-init c = (omega arith, runs_start c.requires.all.can.room.all)

pub list_voxel-requires : goal.list_voxel-requires
list_voxel-requires c =
    let a = c.args in
    counting_can c.loop-k.invariant.1.moved c.loop-k-test.true (omega (arith, c.loop-k.invariant.0)) (VoxelReady a.self.now.voxels.now) (row_can c.requires.all.can) (λ f. voxel_at_most a.self.now.voxels.now (offset_of a.self.now.strides f))

pub loop-k-preserved : goal.loop-k-preserved
unfolding row_quads
loop-k-preserved c =
    let a = c.args in
    (omega arith, runs_on c.loop-k.invariant.1 (λ f x. voxel_length a.self.now.voxels.now (offset_of a.self.now.strides f) (at x a.from.point.y a.from.point.z)) c.loop-k-test.true (omega (arith, c.loop-k.invariant.0)) c.requires.all.apart c.list_voxel.ensures)

pub returns : goal.returns
unfolding row_quads
returns c = let a = c.args in runs_done c.loop-k.invariant.1 (λ f x. voxel_length a.self.now.voxels.now (offset_of a.self.now.strides f) (at x a.from.point.y a.from.point.z)) c.loop-k-test.false
