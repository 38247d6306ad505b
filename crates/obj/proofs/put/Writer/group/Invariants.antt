use Prim.Native.Nat.{◌-◌}
use Rattle.obj.specs.Writer.{GroupReady, group_text}
use Rattle.obj.proofs.Writer.{Leads}
use Rattle.obj.proofs.put.Writer.group.Given as goal

abbrev pub invariant-loop-k : goal.invariant-loop-k
invariant-loop-k l =
    let g = l.group in
    GroupReady g.quads.now g.face l.k (l.k-end - l.k) × Leads (group_text g.quads.now g.face l.k (l.k-end - l.k)) l.self (group_text g.quads.now g.face g.first g.count) l.initial.self
