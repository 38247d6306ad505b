-- `find_quad` meets its contract: the first row, and the whole rows after it, make the rectangle.
use Rattle.std.proofs.Common.{rules, arith}
use Rattle.greedy.proofs.Walks.{next_row, row_at_most, rows_on, rows_stop, rows_done, quad_from_lem}
use Rattle.greedy.proofs.FaceView.find_quad.Goals as goal

pub get_row_width-next-requires : goal.get_row_width-next-requires
get_row_width-next-requires c = next_row _ _ _ _ _ _ _ _ c.requires _ _ (row_at_most _ _ _ _ _ _ _ c.get_row_width-row.ensures) c.loop-height-test.true

pub returns-then-next-width : goal.returns-then-next-width
returns-then-next-width c =
    quad_from_lem _ _ _ _ _ _ _ _ _ _ _ c.get_row_width-row.ensures (rows_stop c.loop-height.invariant _ c.loop-height-test.true c.get_row_width-next.ensures (λ e. omega arith))

pub loop-height-preserved : goal.loop-height-preserved
loop-height-preserved c =
    let most = row_at_most _ _ _ _ _ _ _ c.get_row_width-next.ensures in
    rows_on c.loop-height.invariant _ c.loop-height-test.true c.get_row_width-next.ensures (omega arith) (search rules)

pub returns : goal.returns
returns c = quad_from_lem _ _ _ _ _ _ _ _ _ _ _ c.get_row_width-row.ensures (rows_done c.loop-height.invariant (omega (arith, c.requires.high_some)))
