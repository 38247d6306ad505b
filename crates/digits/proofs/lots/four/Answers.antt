-- `four` meets its contract: two digits, and two after them.
use mathlib.Core.Path.{◌∙◌, ap}
use mathlib.Core.List.{List}
use Prim.Native.Nat.{ℕ, ◌+◌, ◌%◌}
use Rattle.listing.specs.Pushed.{set_all}
use Rattle.digits.specs.Lots.{two_digits}
use Rattle.digits.proofs.InLots.{set_four}
use Rattle.digits.proofs.lots.four.Goals as goal

pub returns : goal.returns
returns c = c.two-2.ensures ∙ ap (λ (t : List ℕ). set_all t (c.args.at + 2) (two_digits (c.args.n % 100))) c.two.ensures ∙ set_four c.args.n c.args.at c.args.out.now
