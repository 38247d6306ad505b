-- `count_voxel` meets its contract: the faces so far are counted, and the others are as they were.
use mathlib.Core.Bool.{Bool}
use mathlib.Core.Path.{refl, sym, ap}
use Prim.Native.Nat.{◌+◌}
use native.Mathlib.Omega.{arith}
use lib.ListN.{get_or}
use Rattle.geometry.specs.Axes.{bit}
use Rattle.simple.specs.Ready.{offset_of}
use Rattle.simple.specs.Count.{shown_at}
use Rattle.simple.proofs.Neighbours.{seen, unseen}
use Rattle.simple.proofs.Sixes.{counted_none, growing_on, growing_still}
use Rattle.simple.proofs.block.Block.count_voxel.Goals as goal
use Rattle.simple.proofs.block.Block.count_voxel.Goals.{then-self-j, else-self-j}

pub returns-then-sight-eq0 : goal.returns-then-sight-eq0
unfolding shown_at
returns-then-sight-eq0 c =
    let a = c.args in
    let h = c.requires in
    counted_none _ h.room.all (λ f. ap bit (unseen a.self.now.voxels.now (offset_of a.self.now.strides f) a.index.0 (h.each 0 (omega arith)).good c.sight-sight.ensures refl (omega (arith, c.if-sight-eq0.true))))

pub loop-f-preserved : goal.loop-f-preserved
unfolding shown_at
loop-f-preserved c =
    let at_j = c.offset-neighbor.ensures in
    let l = c.loop-f in
    let taken = c.loop-f-test.true in
    let sight = c.sight-sight.ensures in
    let a = c.args in
    let good = (c.requires.each 0 (omega arith)).good in
    elim c.if-self-j.branch [
      | then-self-j w ↦ rw w.counts-is (growing_on l.invariant taken (ap (λ (b : Bool). get_or l.counts l.f 0 + bit b) (sym (seen a.self.now.voxels.now _ a.index.0 good sight at_j w.if-self-j.true))))
      | else-self-j w ↦ rw w.counts-is (growing_still l.invariant taken (ap bit (unseen a.self.now.voxels.now _ a.index.0 good sight at_j w.if-self-j.false)))
    ]
