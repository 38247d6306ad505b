-- `check_each_row` meets its contract: the rows that are left decide as all do.
use Rattle.std.proofs.Common.{sym, ◌∙◌, arith}
use Rattle.geometry.proofs.Answers.{handed_on}
use Rattle.voxels.specs.Rows.{bad_at, row, rows}
use Rattle.voxels.proofs.Asked.{ask_start, ask_on, ask_stops, ask_done}
use Rattle.voxels.proofs.Loops.{underway_start, underway_on, next_fits}
use Rattle.voxels.proofs.bounds.check_each_row.Goals as goal

pub loop-k-init : goal.loop-k-init
unfolding rows
loop-k-init c = let s = c.args in (underway_start, ask_start s.y_stride.0 (row (bad_at s.voxels.now) s.wide) s.start.0 s.high)

pub check_row-requires : goal.check_row-requires
check_row-requires c = λ j l. omega (arith, c.loop-k.invariant.0.place, c.requires.each c.loop-k.k c.loop-k-test.true)

pub returns-in_err-check_row : goal.returns-in_err-check_row
returns-in_err-check_row c =
    let s = c.args in
    let l = c.loop-k in
    handed_on _ _ c.from_residual.ensures.1 ∙ ask_stops s.y_stride.0 (row (bad_at s.voxels.now) s.wide) l.i l.k s.high l.invariant.1 c.loop-k-test.true (sym c.in_err-check_row.ensures)

pub overflow_add-i : goal.overflow_add-i
overflow_add-i c =
    let l = c.loop-k in
    record { fits = omega (arith, next_fits l.invariant.0 c.loop-k-test.true c.requires.last) }

pub loop-k-preserved : goal.loop-k-preserved
loop-k-preserved c =
    let s = c.args in
    let l = c.loop-k in
    (underway_on l.invariant.0 c.loop-k-test.true, ask_on s.y_stride.0 (row (bad_at s.voxels.now) s.wide) l.i l.k s.high l.invariant.1 c.loop-k-test.true (sym c.in_ok-check_row.ensures))

pub returns : goal.returns
returns c =
    let s = c.args in
    let l = c.loop-k in
    ask_done s.y_stride.0 (row (bad_at s.voxels.now) s.wide) l.i l.k s.high l.invariant.1 (omega arith)
