-- `UnorientedQuad::within_limits` meets its contract: its three tests are the rule's.
use mathlib.Core.Path.{sym, ◌∙◌}
use Rattle.geometry.specs.Quad.{within_limits}
use Rattle.geometry.proofs.quad.UnorientedQuad.within_limits.Goals as goal
use Rattle.geometry.proofs.quad.UnorientedQuad.within_limits.Goals.{then-minimum_within_limits, else-minimum_within_limits}

pub returns-then-side_within_limits : goal.returns-then-side_within_limits
unfolding within_limits
returns-then-side_within_limits c =
    elim c.if-minimum_within_limits.branch [
      | then-minimum_within_limits w ↦
          let m = sym w.if-minimum_within_limits.ensures in
          let u = sym (rw w.coordinate.ensures at w.side_within_limits.ensures) ∙ sym w.value-is ∙ c.if-side_within_limits.true in
          rw (c.side_within_limits-then-side_within_limits.ensures, c.coordinate-then-side_within_limits.ensures) (simp (m, u))
      | else-minimum_within_limits w ↦ cc
    ]

pub returns-else-side_within_limits : goal.returns-else-side_within_limits
unfolding within_limits
returns-else-side_within_limits c =
    elim c.if-minimum_within_limits.branch [
      | then-minimum_within_limits w ↦
          let m = sym w.if-minimum_within_limits.ensures in
          let u = sym (rw w.coordinate.ensures at w.side_within_limits.ensures) ∙ sym w.value-is ∙ c.if-side_within_limits.false in
          rw c.if-side_within_limits.false (simp (m, u))
      | else-minimum_within_limits w ↦ let m = sym w.if-minimum_within_limits.ensures in rw c.if-side_within_limits.false (simp m)
    ]
