use Rattle.std.proofs.Common.{◌≡◌, ◌-◌}
use Rattle.saved.specs.Where.{from_section_in, from_section}
use Rattle.saved.proofs.place.section.Given as goal

abbrev pub invariant-loop : goal.invariant-loop
invariant-loop l = from_section_in l.size (7 - l.counter) (l.section - l.counter) l.rest ≡ from_section l.form.numbers l.section l.bytes
