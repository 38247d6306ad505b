-- `check` meets its contract: 24, then 6, then 12, then 13.
use mathlib.Core.Path.{sym, ◌∙◌}
use Rattle.geometry.proofs.Answers.{handed_on}
use Rattle.listing.specs.Listing.{capacity}
use Rattle.writing.proofs.Ordered.{counts_refuse, counts_held, faces_refuse, quads_refuse, many_refuse, none_refuse}
use Rattle.writing.proofs.handed.check.Goals as goal

pub check_groups-requires : goal.check_groups-requires
unfolding capacity
check_groups-requires c =
    let a = c.args in
    record { le_numbers = c.requires; counts_bound = counts_held a.numbers a.faces a.counts a.quads.now (sym c.in_ok-all.ensures) }

pub returns-then-all-gt-MOST_QUADS : goal.returns-then-all-gt-MOST_QUADS
unfolding capacity
returns-then-all-gt-MOST_QUADS c =
    rw c.at.ensures (many_refuse _ _ _ _ (sym c.in_ok-all.ensures) (sym c.in_ok-check_faces.ensures) (sym c.in_ok-check_groups.ensures) c.if-all-gt-MOST_QUADS.true)

pub returns-in_err-all : goal.returns-in_err-all
unfolding capacity
returns-in_err-all c = handed_on _ _ c.from_residual.ensures.1 ∙ counts_refuse _ _ _ _ (sym c.in_err-all.ensures)

pub returns-in_err-check_faces : goal.returns-in_err-check_faces
unfolding capacity
returns-in_err-check_faces c =
    handed_on _ _ c.from_residual-in_err-check_faces.ensures.1
    ∙ faces_refuse _ _ _ _ (sym c.in_ok-all.ensures) (sym c.in_err-check_faces.ensures)

pub returns-in_err-check_groups : goal.returns-in_err-check_groups
unfolding capacity
returns-in_err-check_groups c =
    handed_on _ _ c.from_residual-in_err-check_groups.ensures.1
    ∙ quads_refuse _ _ _ _ (sym c.in_ok-all.ensures) (sym c.in_ok-check_faces.ensures) (sym c.in_err-check_groups.ensures)

pub returns : goal.returns
unfolding capacity
returns c =
    none_refuse _ _ _ _ (sym c.in_ok-all.ensures) (sym c.in_ok-check_faces.ensures) (sym c.in_ok-check_groups.ensures) c.if-all-gt-MOST_QUADS.false
