use mathlib.Core.List.{◌++◌}
use mathlib.Core.Path.{◌≡◌}
use lib.ListN.{drop}
use Rattle.digits.specs.Decimal.{digits}
use Rattle.digits.proofs.Written.{last_digits}
use Rattle.digits.proofs.tight.Given as goal

abbrev pub invariant-loop-at : goal.invariant-loop-at
invariant-loop-at l = last_digits l.at l.rest ++ drop l.at l.out ≡ digits l.n ++ drop l.count l.initial.out
