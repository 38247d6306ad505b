use Rattle.obj.proofs.Going.{GroupsReady, groups_text}
use Rattle.obj.proofs.Writer.{Leads}
use Rattle.obj.proofs.put.mesh.Given as goal

abbrev pub invariant-loop-face : goal.invariant-loop-face
invariant-loop-face l =
    let faces = l.face-iterator.a.rest.now in
    let counts = l.face-iterator.b.rest.now in
    let list = l.fn.mesh.quads.now in
    GroupsReady list faces counts l.first × Leads (groups_text list faces counts l.first) l.writer (groups_text list l.fn.mesh.faces l.fn.mesh.counts 0) l.initial.writer
