-- `list_slices` meets its contract: what is listed and what is left make all slices.
use mathlib.Core.Path.{refl}
use Prim.Native.Nat.{ℕ}
use native.Mathlib.Omega.{arith}
use Rattle.geometry.specs.Point.{at}
use Rattle.simple.specs.Ready.{offset_of, RowsReady}
use Rattle.simple.specs.List.{slices_quads}
use Rattle.simple.proofs.Totals.{rows_reach, rows_length}
use Rattle.simple.proofs.Counting.{counting_can}
use Rattle.simple.proofs.Cursors.{runs_start, runs_apart, runs_on, runs_done}
use Rattle.simple.proofs.block.Block.list_slices.Goals as goal

pub loop-k-init : goal.loop-k-init
loop-k-init c = runs_start c.requires.all.can.room.all

pub list_slice-requires : goal.list_slice-requires
unfolding slices_quads
list_slice-requires c =
    let a = c.args in
    let h = c.requires in
    let taken = c.loop-k-test.true in
    record {
      all = record {
        can = counting_can c.loop-k.invariant.moved taken refl (λ (o j : ℕ). RowsReady a.self.now.voxels.now o j a.slices.rows) h.all.can (λ f. rows_reach a.self.now.voxels.now (offset_of a.self.now.strides f) ((h.all.can.each 0 (omega arith)).each c.loop-k.k taken));
        apart = runs_apart c.loop-k.invariant (λ f z. rows_length a.self.now.voxels.now (offset_of a.self.now.strides f) a.slices.rows (at a.from.point.x a.from.point.y z)) taken refl h.all.apart;
      };
      small = record { x = h.small.x; y = h.small.y; z = omega (arith, h.small.z) };
    }

pub loop-k-preserved : goal.loop-k-preserved
unfolding slices_quads
loop-k-preserved c =
    let a = c.args in
    runs_on c.loop-k.invariant (λ f z. rows_length a.self.now.voxels.now (offset_of a.self.now.strides f) a.slices.rows (at a.from.point.x a.from.point.y z)) c.loop-k-test.true refl c.requires.all.apart c.list_slice.ensures

pub returns : goal.returns
unfolding slices_quads
returns c = let a = c.args in runs_done c.loop-k.invariant (λ f z. rows_length a.self.now.voxels.now (offset_of a.self.now.strides f) a.slices.rows (at a.from.point.x a.from.point.y z)) c.loop-k-test.false
