-- `permutation` meets its contract: a number below 0 is none, and any other is cast to itself.
use Rattle.spunmarrow.proofs.Six.{signed_none, signed_casts, signed_is}
use Rattle.spunmarrow.proofs.numbers.permutation.Goals as goal

pub returns-then-number-lt0 : goal.returns-then-number-lt0
returns-then-number-lt0 c = rw c.at.ensures (signed_none _ c.ranges.number c.if-number-lt0.true)

pub overflow_cast-number : goal.overflow_cast-number
overflow_cast-number c = signed_casts _ c.ranges.number c.if-number-lt0.false

pub returns : goal.returns
returns c = signed_is _ c.ranges.number c.if-number-lt0.false c.try_from.ensures
