use Rattle.std.proofs.Common.{◌≡◌, ◌-◌}
use Rattle.saved.specs.Where.{from_quad_in, from_quad}
use Rattle.saved.proofs.place.quad.Given as goal

abbrev pub invariant-loop : goal.invariant-loop
invariant-loop l = from_quad_in l.size (6 - l.counter) l.left l.rest ≡ from_quad l.form.numbers l.quad l.bytes
