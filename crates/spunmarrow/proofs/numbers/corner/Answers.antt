-- `corner` meets its contract: an arm's number is the place of its case, and what is left is 4 or more.
use native.Mathlib.Omega.{arith}
use Rattle.geometry.specs.Refusal.{answer}
use Rattle.spunmarrow.specs.Numbers.{numbered}
use Rattle.spunmarrow.proofs.Cases.{number_none}
use Rattle.spunmarrow.proofs.numbers.corner.Goals as goal

pub returns-in-0 : goal.returns-in-0
unfolding numbered answer
returns-in-0 c = rw c.in-0.is

pub returns-in-1 : goal.returns-in-1
unfolding numbered answer
returns-in-1 c = rw c.in-1.is

pub returns-in-2 : goal.returns-in-2
unfolding numbered answer
returns-in-2 c = rw c.in-2.is

pub returns-in-3 : goal.returns-in-3
unfolding numbered answer
returns-in-3 c = rw c.in-3.is

pub returns-in_default : goal.returns-in_default
returns-in_default c = rw c.at.ensures (number_none _ _ (omega arith))
