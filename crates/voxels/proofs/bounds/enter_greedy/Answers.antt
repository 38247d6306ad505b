-- `enter_greedy` meets its contract: 1 to 5, asked again before 8, change nothing.
use Rattle.std.proofs.Common.{◌++◌, length, ◌∙◌}
use Rattle.voxels.specs.Checks.{bounds_checks, bad_faces, few_visited, bad_voxels}
use Rattle.geometry.proofs.Orders.{first_follows, asked_in_turn, asked_again, both_pass}
use Rattle.voxels.proofs.bounds.enter_greedy.Goals as goal

pub returns : goal.returns
returns c =
    let s = c.args in
    let bounds = bounds_checks (length s.voxels.now) s.voxels_shape s.min s.max in
    let faces = bad_faces s.faces in
    let visited = few_visited s.visited s.voxels_shape in
    c.enter.ensures
    ∙ asked_again (bounds ++ faces ++ visited) bounds (bad_voxels s.voxels.now s.voxels_shape s.min s.max) _
    (λ h. (both_pass bounds faces (both_pass (bounds ++ faces) visited h).0).0)
    (asked_in_turn (bounds ++ faces) visited
    (asked_in_turn bounds faces c.check_bounds-bounds.ensures c.check_faces.ensures (first_follows _ _ c.first_refusal-faced.ensures))
    c.check_visited_count.ensures (first_follows _ _ c.first_refusal-before.ensures))
