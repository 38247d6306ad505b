-- `point` meets its contract.
use mathlib.Core.Path.{refl}
use Rattle.spunmarrow.specs.Numbers.{point_of}
use Rattle.spunmarrow.proofs.numbers.point.Goals as goal

pub returns : goal.returns
unfolding point_of
returns c = refl
