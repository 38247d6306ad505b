-- `quad` meets its contract.
use mathlib.Core.Path.{refl}
use Rattle.greedy.specs.Call.{quad_from}
use Rattle.spunmarrow.proofs.numbers.quad.Goals as goal

pub returns : goal.returns
unfolding quad_from
returns c = refl
