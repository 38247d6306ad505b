-- `mesh` meets its contract: what is measured, and what is left, are all of the text.
use Rattle.std.proofs.Common.{rules}
use mathlib.Core.Path.{◌≡◌, sym, ◌∙◌, ap}
use native.Mathlib.Omega.{arith}
use lib.ListN.{length}
use Rattle.writing.proofs.Ordered.{order_passed}
use Rattle.obj.proofs.Lengths.{handed_at_most}
use Rattle.obj.proofs.Going.{measured, mesh_ready, mesh_text, groups_next, groups_ready, groups_on, groups_done}
use Rattle.obj.proofs.measure.mesh.Goals as goal

pub loop-face-init : goal.loop-face-init
loop-face-init c =
    let m = c.args.mesh.now in
    let faces : c.into_iter-face-iterator.result.a.rest.now ≡ m.faces = search rules in
    let counts : c.into_iter-face-iterator.result.b.rest.now ≡ m.counts = search rules in
    rw (faces, counts) (mesh_ready m.passed, omega (arith, ap length (mesh_text m.quads.now m.faces m.counts)))

pub invariant_of-group : goal.invariant_of-group
invariant_of-group c = let s = c.in-Some.ensures.steps in record { ready = groups_ready _ s.0 s.1 _ c.loop-face.invariant.0 }

pub overflow_add-length : goal.overflow_add-length
overflow_add-length c =
    let m = c.args.mesh.now in
    let l = c.loop-face in
    let s = c.in-Some.ensures.steps in
    let six_faces : length m.faces ≡ 6 = search rules in
    let six_counts : length m.counts ≡ 6 = search rules in
    record { fits = omega (arith, measured _ _ (groups_next m.quads.now s.0 s.1 l.first) c.group-length.ensures, l.invariant.1, handed_at_most m.faces m.counts m.quads.now (six_faces ∙ sym six_counts) m.passed, (order_passed _ _ _ _ m.passed).few) }

pub overflow_add-first : goal.overflow_add-first
overflow_add-first c =
    let s = c.in-Some.ensures.steps in
    record { fits = omega (arith, (groups_ready _ s.0 s.1 _ c.loop-face.invariant.0).few) }

pub loop-face-preserved : goal.loop-face-preserved
loop-face-preserved c =
    let l = c.loop-face in
    let s = c.in-Some.ensures.steps in
    (groups_on _ s.0 s.1 _ l.invariant.0, omega (arith, measured _ _ (groups_next c.args.mesh.now.quads.now s.0 s.1 l.first) c.group-length.ensures, l.invariant.1))

pub returns : goal.returns
returns c =
    let l = c.loop-face in
    omega (arith, l.invariant.1, ap length (groups_done c.args.mesh.now.quads.now l.face-iterator.a.rest.now l.face-iterator.b.rest.now l.first c.in-None.ensures.steps))
