-- `OrientedBlockFace::quad_corners` meets its contract: a quad that passed is one that `corners` takes.
use mathlib.Core.List.{[]}
use mathlib.Core.Path.{sym}
use Rattle.geometry.specs.Checks.{quad_checks}
use Rattle.geometry.specs.Corners.{quad_corners}
use Rattle.geometry.proofs.Answers.{value_given, refusal_given}
use Rattle.geometry.proofs.Limits.{quad_within_bounds}
use Rattle.geometry.proofs.face.OrientedBlockFace.quad_corners.Goals as goal

pub returns-in_err-check_drawing : goal.returns-in_err-check_drawing
unfolding quad_corners
returns-in_err-check_drawing c =
    let a = c.args in
    refusal_given (quad_checks a.self a.quad) _ _ c.in_err-check_drawing.field-0.0 c.from_residual.ensures.1 c.in_err-check_drawing.ensures

pub invariant_of-corners : goal.invariant_of-corners
invariant_of-corners c =
    let a = c.args in
    record { within = quad_within_bounds a.self a.quad [] (sym c.in_ok-check_drawing.ensures) }

pub returns : goal.returns
unfolding quad_corners
returns c =
    let a = c.args in
    value_given (quad_checks a.self a.quad) _ c.in_ok-check_drawing.ensures (c.corners.ensures)
