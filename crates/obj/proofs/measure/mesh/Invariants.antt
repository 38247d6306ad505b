use mathlib.Core.Path.{◌≡◌}
use Prim.Native.Nat.{◌+◌}
use lib.ListN.{length}
use Rattle.obj.specs.Obj.{obj_text}
use Rattle.obj.proofs.Going.{GroupsReady, groups_text}
use Rattle.obj.proofs.measure.mesh.Given as goal

abbrev pub invariant-loop-face : goal.invariant-loop-face
invariant-loop-face l =
    let faces = l.face-iterator.a.rest.now in
    let counts = l.face-iterator.b.rest.now in
    let m = l.fn.mesh in
    GroupsReady m.quads.now faces counts l.first × (l.length + length (groups_text m.quads.now faces counts l.first) ≡ length (obj_text m.faces m.counts m.quads.now))
