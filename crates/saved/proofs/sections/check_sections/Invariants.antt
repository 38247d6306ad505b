use Rattle.std.proofs.Common.{◌≡◌, ◌-◌}
use Rattle.geometry.specs.Refusal.{checked}
use Rattle.saved.specs.Read.{section_checks}
use Rattle.saved.proofs.sections.check_sections.Given as goal

abbrev pub invariant-loop-section : goal.invariant-loop-section
invariant-loop-section l = checked (section_checks l.size l.section (7 - l.section) l.rest) ≡ checked (section_checks l.size 1 6 l.bytes)
