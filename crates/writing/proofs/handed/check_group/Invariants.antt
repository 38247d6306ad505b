use mathlib.Core.Path.{◌≡◌}
use Prim.Native.Nat.{◌+◌, ◌-◌, ◌*◌}
use Rattle.geometry.specs.Refusal.{checked}
use Rattle.writing.specs.Handed.{bad_quad_at}
use Rattle.writing.specs.Left.{group_left}
use Rattle.writing.proofs.Rest.{InGroup}
use Rattle.writing.proofs.handed.check_group.Given as goal

abbrev pub invariant-loop-k : goal.invariant-loop-k
invariant-loop-k l =
    InGroup l.numbers l.first l.count l.k l.at
    × (checked (group_left bad_quad_at l.numbers l.quads l.face (l.first + l.k) l.at (l.count - l.k)) ≡ checked (group_left bad_quad_at l.numbers l.quads l.face l.first (l.first * l.numbers) l.count))
