-- `list_voxel` meets its contract: the quads of the faces so far are listed, and the other faces' cursors stand where they stood.
use mathlib.Core.Bool.{Bool}
use mathlib.Core.List.{List}
use mathlib.Core.Path.{refl, ap}
use native.Mathlib.Omega.{arith}
use Rattle.geometry.specs.Point.{Point}
use Rattle.voxels.specs.Rows.{kept_if}
use Rattle.simple.specs.Ready.{offset_of}
use Rattle.simple.specs.List.{voxel_quad}
use Rattle.simple.proofs.Neighbours.{seen, unseen}
use Rattle.simple.proofs.Cursors.{faces_start, faces_hidden, faces_shown, faces_none}
use Rattle.simple.proofs.block.Block.list_voxel.Goals as goal
use Rattle.simple.proofs.block.Block.list_voxel.Goals.{then-self-j, else-self-j}

pub returns-then-sight-eq0 : goal.returns-then-sight-eq0
unfolding voxel_quad
returns-then-sight-eq0 c =
    let a = c.args in
    let h = c.requires in
    faces_none h.room.all (λ f. ap (λ (b : Bool). kept_if b a.voxel.point) (unseen a.self.now.voxels.now (offset_of a.self.now.strides f) a.voxel.index.0 (h.each 0 (omega arith)).good c.sight-sight.ensures refl (omega (arith, c.if-sight-eq0.true))))

pub loop-f-init : goal.loop-f-init
loop-f-init c = faces_start c.requires.room.all

pub loop-f-preserved : goal.loop-f-preserved
unfolding voxel_quad
loop-f-preserved c =
    let at_j = c.offset-neighbor.ensures in
    let l = c.loop-f in
    let taken = c.loop-f-test.true in
    let sight = c.sight-sight.ensures in
    let a = c.args in
    let good = (c.requires.each 0 (omega arith)).good in
    let listed : Bool → List Point = λ b. kept_if b a.voxel.point in
    elim c.if-self-j.branch [
      | then-self-j w ↦ rw (w.out-is, w.cursors-is) (faces_shown l.invariant taken a.voxel.point (ap listed (seen a.self.now.voxels.now _ a.voxel.index.0 good sight at_j w.if-self-j.true)) w.push.ensures)
      | else-self-j w ↦ rw (w.out-is, w.cursors-is) (faces_hidden l.invariant taken (ap listed (unseen a.self.now.voxels.now _ a.voxel.index.0 good sight at_j w.if-self-j.false)))
    ]
