-- `check_voxels` meets its contract: where 1 to 5 pass the box is held, and 8 is left.
use Rattle.std.proofs.Common.{sym, ◌∙◌}
use Rattle.geometry.proofs.Answers.{handed_on}
use Rattle.geometry.proofs.Orders.{part_refuses, part_passes}
use Rattle.voxels.proofs.Held.{bounds_held}
use Rattle.voxels.proofs.bounds.check_voxels.Goals as goal

pub check_box-requires : goal.check_box-requires
check_box-requires c = bounds_held _ _ _ _ (sym c.in_ok-check_bounds.ensures)

pub returns-in_err-check_bounds : goal.returns-in_err-check_bounds
returns-in_err-check_bounds c = handed_on _ _ c.from_residual.ensures.1 ∙ part_refuses _ _ tt (sym c.in_err-check_bounds.ensures)

pub returns : goal.returns
returns c = part_passes _ _ tt (sym c.in_ok-check_bounds.ensures) c.check_box.ensures
