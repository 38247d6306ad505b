-- `few` meets its contract: one digit or two.
use mathlib.Core.Path.{sym, ◌∙◌, ap}
use native.Mathlib.Omega.{arith}
use lib.ListN.{length}
use Rattle.listing.specs.Pushed.{set_all}
use Rattle.digits.proofs.Digits.{digits_one}
use Rattle.digits.proofs.InLots.{digits_two}
use Rattle.digits.proofs.lots.few.Goals as goal

pub returns-then-n-lt10 : goal.returns-then-n-lt10
unfolding set_all
returns-then-n-lt10 c = let e = digits_one c.args.n (omega arith) in record { value = sym (ap length e); out_after = sym (ap (set_all _ 0) e) }

pub returns : goal.returns
returns c = let e = digits_two c.args.n (omega arith) (omega arith) in record { value = sym (ap length e); out_after = c.two.ensures ∙ sym (ap (set_all _ 0) e) }
