-- `count_slices` meets its contract: what the slices so far show is counted.
use mathlib.Core.Path.{refl}
use Prim.Native.Nat.{ℕ}
use native.Mathlib.Omega.{arith}
use Rattle.simple.specs.Ready.{offset_of, RowsReady}
use Rattle.simple.specs.Count.{slices_shown}
use Rattle.simple.proofs.Totals.{rows_reach}
use Rattle.simple.proofs.Counting.{counting_start, counting_can, counting_on, counting_done}
use Rattle.simple.proofs.block.Block.count_slices.Goals as goal

pub loop-k-init : goal.loop-k-init
loop-k-init c = counting_start c.requires.room.all

pub count_slice-requires : goal.count_slice-requires
count_slice-requires c =
    let a = c.args in
    counting_can c.loop-k.invariant c.loop-k-test.true refl (λ (o j : ℕ). RowsReady a.self.now.voxels.now o j a.slices.rows) c.requires (λ f. rows_reach a.self.now.voxels.now (offset_of a.self.now.strides f) ((c.requires.each 0 (omega arith)).each c.loop-k.k c.loop-k-test.true))

pub loop-k-preserved : goal.loop-k-preserved
loop-k-preserved c = counting_on c.loop-k.invariant c.loop-k-test.true refl c.count_slice.ensures

pub returns : goal.returns
unfolding slices_shown
returns c = counting_done c.loop-k.invariant c.loop-k-test.false
