-- `OrientedBlockFace::new` meets its contract. The face is made of the sign's bits, whose integer is the sign.
use lib.IntN.{ℤ}
use mathlib.Core.Path.{refl, ap, ◌∙◌}
use mir.Facts.{to_z-of_z}
use mir.Syntax.{w32}
use mir.Val.{to_z, of_z}
use Rattle.geometry.specs.declared.face.OrientedBlockFace.{OrientedBlockFace}
use Rattle.geometry.specs.Checks.{face_checks}
use Rattle.geometry.specs.Face.{new_face}
use Rattle.geometry.proofs.Answers.{value_given, refusal_given}
use Rattle.geometry.proofs.face.OrientedBlockFace.new.Goals as goal

pub returns-in_err-check_sign : goal.returns-in_err-check_sign
unfolding new_face
returns-in_err-check_sign c =
    let a = c.args in
    let f : OrientedBlockFace = record { n_sign = to_z w32 (of_z w32 a.n_sign); permutation = a.permutation } in
    refusal_given (face_checks f) f _ c.in_err-check_sign.field-0.0 c.from_residual.ensures.1 c.in_err-check_sign.ensures
    ∙ ap (λ (s : ℤ). new_face s a.permutation) (to_z-of_z c.ranges.n_sign)

pub returns : goal.returns
unfolding new_face
returns c =
    let a = c.args in
    let f : OrientedBlockFace = record { n_sign = to_z w32 (of_z w32 a.n_sign); permutation = a.permutation } in
    value_given (face_checks f) f c.in_ok-check_sign.ensures refl
    ∙ ap (λ (s : ℤ). new_face s a.permutation) (to_z-of_z c.ranges.n_sign)
