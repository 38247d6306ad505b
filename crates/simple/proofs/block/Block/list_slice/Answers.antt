-- `list_slice` meets its contract: what is listed and what is left make the whole slice.
use mathlib.Core.Path.{refl}
use Prim.Native.Nat.{ℕ}
use native.Mathlib.Omega.{arith}
use Rattle.geometry.specs.Point.{at}
use Rattle.simple.specs.Ready.{offset_of, RowReady}
use Rattle.simple.specs.List.{rows_quads}
use Rattle.simple.proofs.Totals.{row_at_most, row_length}
use Rattle.simple.proofs.Counting.{rows_can, counting_can}
use Rattle.simple.proofs.Cursors.{runs_start, runs_apart, runs_on, runs_done}
use Rattle.simple.proofs.block.Block.list_slice.Goals as goal

pub loop-k-init : goal.loop-k-init
loop-k-init c = runs_start c.requires.all.can.room.all

pub list_row-requires : goal.list_row-requires
unfolding rows_quads
list_row-requires c =
    let a = c.args in
    let h = c.requires in
    let taken = c.loop-k-test.true in
    record {
      all = record {
        can = counting_can c.loop-k.invariant.moved taken refl (λ (o j : ℕ). RowReady a.self.now.voxels.now o j a.rows.wide) (rows_can h.all.can) (λ f. row_at_most a.self.now.voxels.now (offset_of a.self.now.strides f) a.rows.wide);
        apart = runs_apart c.loop-k.invariant (λ f y. row_length a.self.now.voxels.now (offset_of a.self.now.strides f) a.rows.wide (at a.from.point.x y a.from.point.z)) taken refl h.all.apart;
      };
      small = record { x = h.small.x; y = omega (arith, h.small.y); z = h.small.z };
    }

pub loop-k-preserved : goal.loop-k-preserved
unfolding rows_quads
loop-k-preserved c =
    let a = c.args in
    runs_on c.loop-k.invariant (λ f y. row_length a.self.now.voxels.now (offset_of a.self.now.strides f) a.rows.wide (at a.from.point.x y a.from.point.z)) c.loop-k-test.true refl c.requires.all.apart c.list_row.ensures

pub returns : goal.returns
unfolding rows_quads
returns c = let a = c.args in runs_done c.loop-k.invariant (λ f y. row_length a.self.now.voxels.now (offset_of a.self.now.strides f) a.rows.wide (at a.from.point.x y a.from.point.z)) c.loop-k-test.false
