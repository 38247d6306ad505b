-- `two` meets its contract: the two bytes of the number that it makes are the two digits.
use native.Mathlib.Omega.{arith}
use Rattle.digits.proofs.InLots.{set_two}
use Rattle.digits.proofs.lots.two.Goals as goal

pub returns : goal.returns
returns c = set_two _ _ _ (omega arith)
