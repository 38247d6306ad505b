-- `long` meets its contract: the digits of the number's ten thousandth, and four after them.
use mathlib.Core.Path.{◌∙◌}
use native.Mathlib.Omega.{arith}
use Prim.Native.Nat.{◌/◌, ◌≤◌}
use Rattle.digits.proofs.Digits.{digits_at_most}
use Rattle.digits.proofs.InLots.{four_more, set_four_more}
use Rattle.digits.proofs.lots.long.Goals as goal
use Rattle.digits.proofs.lots.long.Goals.{After-short-count}

-- At most four stand before the last four.
first_few : (c : After-short-count) → c.short-count.result ≤ 4
first_few c = omega (arith, c.short-count.ensures.value, digits_at_most 3 (c.args.n / 10000) (omega arith))

pub four-requires-clause-at_in_bounds : goal.four-requires-clause-at_in_bounds
four-requires-clause-at_in_bounds c = omega (arith, first_few (goal.at.four-requires-clause-at_in_bounds c).After-short-count)

pub overflow_add-result : goal.overflow_add-result
overflow_add-result c = record { fits = omega (arith, first_few (goal.at.overflow_add-result c).After-short-count) }

pub returns : goal.returns
returns c =
    let n = c.args.n in
    let was = c.args.out.now in
    let high = c.short-count.ensures in
    record { value = four_more n was (omega arith) high.value high.out_after; out_after = c.four.ensures ∙ set_four_more n was (omega arith) high.value high.out_after }
