-- `OrientedBlockFace::signed_normal` meets its contract: the normal is given where the sign passed.
use Rattle.geometry.specs.Checks.{face_checks}
use Rattle.geometry.specs.Face.{signed_normal}
use Rattle.geometry.proofs.Answers.{value_given, refusal_given}
use Rattle.geometry.proofs.face.OrientedBlockFace.signed_normal.Goals as goal

pub returns-in_err-check_sign : goal.returns-in_err-check_sign
unfolding signed_normal
returns-in_err-check_sign c =
    let a = c.args in
    refusal_given (face_checks a.self) _ _ c.in_err-check_sign.field-0.0 c.from_residual.ensures.1 c.in_err-check_sign.ensures

pub returns : goal.returns
unfolding signed_normal
returns c =
    let a = c.args in
    value_given (face_checks a.self) _ c.in_ok-check_sign.ensures (c.normal.ensures)
