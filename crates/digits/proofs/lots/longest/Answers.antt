-- `longest` meets its contract: the digits before the last eight, one or two, and twice four after them.
use mathlib.Core.Path.{◌∙◌}
use Prim.Native.Nat.{◌/◌, ◌≤◌}
use native.Mathlib.Omega.{arith}
use Rattle.digits.proofs.Digits.{digits_at_most}
use Rattle.digits.proofs.InLots.{four_more, set_four_more}
use Rattle.digits.proofs.lots.longest.Goals as goal
use Rattle.digits.proofs.lots.longest.Goals.{After-few-count}

-- At most two stand before the last eight.
first_few : (c : After-few-count) → c.few-count.result ≤ 2
first_few c = omega (arith, c.few-count.ensures.value, digits_at_most 1 (c.args.n / 10000 / 10000) (omega arith))

pub four-requires-clause-at_in_bounds : goal.four-requires-clause-at_in_bounds
four-requires-clause-at_in_bounds c = omega (arith, first_few (goal.at.four-requires-clause-at_in_bounds c).After-few-count)

pub overflow_add-next : goal.overflow_add-next
overflow_add-next c = record { fits = omega (arith, first_few (goal.at.overflow_add-next c).After-few-count) }

pub four-requires-2-clause-at_in_bounds : goal.four-requires-2-clause-at_in_bounds
four-requires-2-clause-at_in_bounds c = omega (arith, first_few (goal.at.four-requires-2-clause-at_in_bounds c).After-few-count)

pub overflow_add-result : goal.overflow_add-result
overflow_add-result c = record { fits = omega (arith, first_few (goal.at.overflow_add-result c).After-few-count) }

pub returns : goal.returns
returns c =
    let n = c.args.n in
    let was = c.args.out.now in
    let first = c.few-count.ensures in
    let count = four_more (n / 10000) was (omega arith) first.value first.out_after in
    let high = c.four.ensures ∙ set_four_more (n / 10000) was (omega arith) first.value first.out_after in
    record { value = four_more n was (omega arith) count high; out_after = c.four-2.ensures ∙ set_four_more n was (omega arith) count high }
