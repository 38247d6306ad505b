-- `count_run` meets its contract: what the voxels so far show is counted.
use mathlib.Core.Path.{◌≡◌, refl}
use Prim.Native.Nat.{◌+◌}
use native.Mathlib.Omega.{arith}
use Rattle.voxels.specs.Loop.{looped}
use Rattle.simple.specs.Count.{row_shown}
use Rattle.simple.proofs.Neighbours.{voxel_ready}
use Rattle.simple.proofs.Totals.{row_at_most, row_next}
use Rattle.simple.proofs.block.Block.count_run.Goals as goal
use Rattle.simple.proofs.block.Block.count_run.Goals.{After-shown-count}

pub loop-k-init : goal.loop-k-init
unfolding row_shown looped
loop-k-init c = refl

pub shown-count-requires : goal.shown-count-requires
shown-count-requires c = (voxel_ready c.requires c.loop-k.k c.loop-k-test.true).good

-- So many are shown after this turn.
next : (c : After-shown-count) → let l = c.loop-k in l.count + c.shown-count.result ≡ row_shown c.args.self.now.voxels.now c.args.stride.0 (l.k + 1) c.args.at.0
next c = row_next _ _ c.requires c.offset-beyond.ensures _ c.loop-k-test.true c.loop-k.invariant c.shown-count.ensures

pub overflow_add-count : goal.overflow_add-count
overflow_add-count c =
    let a = c.args in
    record { fits = omega (arith, next (goal.at.overflow_add-count c).After-shown-count, row_at_most a.self.now.voxels.now a.stride.0 (c.loop-k.k + 1) a.at.0, c.requires.short) }

pub loop-k-preserved : goal.loop-k-preserved
loop-k-preserved c = next (goal.at.loop-k-preserved c).After-shown-count
