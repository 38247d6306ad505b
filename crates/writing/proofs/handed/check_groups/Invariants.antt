use mathlib.Core.Path.{◌≡◌}
use Rattle.geometry.specs.Refusal.{checked}
use Rattle.writing.specs.Handed.{bad_quad_at, bad_quads, handed}
use Rattle.writing.specs.Left.{groups_from}
use Rattle.writing.proofs.Rest.{Walking}
use Rattle.writing.proofs.handed.check_groups.Given as goal

abbrev pub invariant-loop-k : goal.invariant-loop-k
invariant-loop-k l = Walking l.fn.faces l.counts l.first l.k × (checked (groups_from bad_quad_at l.numbers l.quads l.fn.faces l.counts l.first l.k) ≡ checked (bad_quads (handed l.numbers l.fn.faces l.counts l.quads)))
