-- `places` meets its contract: each answer stands between two powers of ten.
use mathlib.Core.Path.{sym, ap}
use native.Mathlib.Omega.{arith}
use lib.ListN.{length}
use Rattle.digits.proofs.Digits.{digits_one, digits_between}
use Rattle.digits.proofs.places.Goals as goal

pub returns-then-n-lt10 : goal.returns-then-n-lt10
returns-then-n-lt10 c = sym (ap length (digits_one _ (omega arith)))

pub returns-then-n-lt100 : goal.returns-then-n-lt100
returns-then-n-lt100 c = digits_between 1 _ (omega arith) (omega arith)

pub returns-then-n-lt1000 : goal.returns-then-n-lt1000
returns-then-n-lt1000 c = digits_between 2 _ (omega arith) (omega arith)

pub returns-then-n-lt10000 : goal.returns-then-n-lt10000
returns-then-n-lt10000 c = digits_between 3 _ (omega arith) (omega arith)

pub returns-then-n-lt100000 : goal.returns-then-n-lt100000
returns-then-n-lt100000 c = digits_between 4 _ (omega arith) (omega arith)

pub returns-then-n-lt1000000 : goal.returns-then-n-lt1000000
returns-then-n-lt1000000 c = digits_between 5 _ (omega arith) (omega arith)

pub returns-then-n-lt10000000 : goal.returns-then-n-lt10000000
returns-then-n-lt10000000 c = digits_between 6 _ (omega arith) (omega arith)

pub returns-then-n-lt100000000 : goal.returns-then-n-lt100000000
returns-then-n-lt100000000 c = digits_between 7 _ (omega arith) (omega arith)

pub returns-then-n-lt1000000000 : goal.returns-then-n-lt1000000000
returns-then-n-lt1000000000 c = digits_between 8 _ (omega arith) (omega arith)

pub returns : goal.returns
returns c = digits_between 9 _ (omega arith) (omega arith)
