-- `short` meets its contract: one digit or two, or one and two after it, or four.
use mathlib.Core.Path.{sym, ◌∙◌, ap}
use native.Mathlib.Omega.{arith}
use lib.ListN.{length}
use Rattle.listing.specs.Pushed.{set_all}
use Rattle.digits.proofs.InLots.{digits_three, digits_four}
use Rattle.digits.proofs.lots.short.Goals as goal

pub returns-then-n-lt1000 : goal.returns-then-n-lt1000
unfolding set_all
returns-then-n-lt1000 c = let e = digits_three c.args.n (omega arith) (omega arith) in record { value = sym (ap length e); out_after = c.two.ensures ∙ sym (ap (set_all _ 0) e) }

pub returns : goal.returns
returns c = let e = digits_four c.args.n (omega arith) (omega arith) in record { value = sym (ap length e); out_after = c.four.ensures ∙ sym (ap (set_all _ 0) e) }
