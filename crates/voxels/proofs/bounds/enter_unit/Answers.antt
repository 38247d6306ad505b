-- `enter_unit` meets its contract: 1 to 5, asked again before 8, change nothing.
use Rattle.std.proofs.Common.{◌++◌, length, ◌∙◌}
use Rattle.voxels.specs.Checks.{bounds_checks, bad_faces, bad_voxels}
use Rattle.geometry.proofs.Orders.{first_follows, asked_in_turn, asked_again, both_pass}
use Rattle.voxels.proofs.bounds.enter_unit.Goals as goal

pub returns : goal.returns
returns c =
    let s = c.args in
    let bounds = bounds_checks (length s.voxels.now) s.voxels_shape s.min s.max in
    c.enter.ensures
    ∙ asked_again (bounds ++ bad_faces s.faces) bounds (bad_voxels s.voxels.now s.voxels_shape s.min s.max) _
    (λ h. (both_pass bounds (bad_faces s.faces) h).0)
    (asked_in_turn bounds (bad_faces s.faces) c.check_bounds-bounds.ensures c.check_faces.ensures (first_follows _ _ c.first_refusal-before.ensures))
