-- `count_rows` meets its contract: what the rows so far show is counted.
use mathlib.Core.Path.{refl}
use Prim.Native.Nat.{ℕ}
use Rattle.simple.specs.Ready.{offset_of, RowReady}
use Rattle.simple.specs.Count.{rows_shown}
use Rattle.simple.proofs.Totals.{row_at_most}
use Rattle.simple.proofs.Counting.{rows_can, counting_start, counting_can, counting_on, counting_done}
use Rattle.simple.proofs.block.Block.count_rows.Goals as goal

pub loop-k-init : goal.loop-k-init
loop-k-init c = counting_start c.requires.room.all

pub count_row-requires : goal.count_row-requires
count_row-requires c =
    let a = c.args in
    counting_can c.loop-k.invariant c.loop-k-test.true refl (λ (o j : ℕ). RowReady a.self.now.voxels.now o j a.rows.wide) (rows_can c.requires) (λ f. row_at_most a.self.now.voxels.now (offset_of a.self.now.strides f) a.rows.wide)

pub loop-k-preserved : goal.loop-k-preserved
loop-k-preserved c = counting_on c.loop-k.invariant c.loop-k-test.true refl c.count_row.ensures

pub returns : goal.returns
unfolding rows_shown
returns c = counting_done c.loop-k.invariant c.loop-k-test.false
