use mathlib.Core.Path.{◌≡◌}
use Prim.Native.Nat.{◌+◌, ◌-◌}
use lib.ListN.{length}
use Rattle.obj.specs.Writer.{GroupReady, group_text}
use Rattle.obj.proofs.measure.group.Given as goal

abbrev pub invariant-loop-k : goal.invariant-loop-k
invariant-loop-k l =
    let g = l.group in
    GroupReady g.quads.now g.face l.k (l.k-end - l.k) × (l.length + length (group_text g.quads.now g.face l.k (l.k-end - l.k)) ≡ length (group_text g.quads.now g.face g.first g.count))
