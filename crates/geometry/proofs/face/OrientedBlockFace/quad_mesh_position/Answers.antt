-- `OrientedBlockFace::quad_mesh_position` meets its contract: a quad that passed is one that `position` takes.
use mathlib.Core.List.{[], ◌∷◌}
use mathlib.Core.Path.{sym}
use Rattle.geometry.specs.Checks.{bad_size, position_checks}
use Rattle.geometry.specs.Corners.{quad_position}
use Rattle.geometry.proofs.Answers.{value_given, refusal_given}
use Rattle.geometry.proofs.Limits.{quad_within_bounds}
use Rattle.geometry.proofs.face.OrientedBlockFace.quad_mesh_position.Goals as goal

pub returns-in_err-check_placing : goal.returns-in_err-check_placing
unfolding quad_position
returns-in_err-check_placing c =
    let a = c.args in
    refusal_given (position_checks a.self a.quad a.voxel_size) _ _ c.in_err-check_placing.field-0.0 c.from_residual.ensures.1 c.in_err-check_placing.ensures

pub invariant_of-position : goal.invariant_of-position
invariant_of-position c =
    let a = c.args in
    record { within = quad_within_bounds a.self a.quad (bad_size a.voxel_size ∷ []) (sym c.in_ok-check_placing.ensures) }

pub returns : goal.returns
unfolding quad_position
returns c =
    let a = c.args in
    value_given (position_checks a.self a.quad a.voxel_size) _ c.in_ok-check_placing.ensures (c.position.ensures)
