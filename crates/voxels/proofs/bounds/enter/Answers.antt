-- `enter` meets its contract: the checks before decide, then 1 to 5 and 8, then the value is given.
use Rattle.std.proofs.Common.{length, sym, ◌∙◌}
use Rattle.geometry.proofs.Answers.{handed_on}
use Rattle.geometry.proofs.Orders.{both_pass}
use Rattle.geometry.proofs.Refusals.{whole_refuses, whole_passes}
use Rattle.voxels.specs.Checks.{bounds_checks, bad_voxels}
use Rattle.voxels.proofs.Held.{bounds_held}
use Rattle.voxels.proofs.bounds.enter.Goals as goal

pub returns-in_err-before : goal.returns-in_err-before
returns-in_err-before c = handed_on _ _ c.from_residual.ensures.1 ∙ rw c.in_err-before.was

pub returns-in_err-check_voxels : goal.returns-in_err-check_voxels
returns-in_err-check_voxels c = handed_on _ _ c.from_residual-in_err-check_voxels.ensures.1 ∙ rw c.in_ok-before.was (whole_refuses _ _ (sym c.in_err-check_voxels.ensures))

pub entered-requires : goal.entered-requires
entered-requires c = let s = c.args in bounds_held _ _ _ _ (both_pass (bounds_checks (length s.voxels.now) s.voxels_shape s.min s.max) (bad_voxels s.voxels.now s.voxels_shape s.min s.max) (sym c.in_ok-check_voxels.ensures)).0

pub returns : goal.returns
returns c = rw c.in_ok-before.was (whole_passes _ _ (sym c.in_ok-check_voxels.ensures) c.entered.ensures)
