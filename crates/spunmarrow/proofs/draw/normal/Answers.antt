-- `normal` meets its contract: a refusal of the face, or the normal.
use Rattle.geometry.proofs.Answers.{handed_on}
use Rattle.spunmarrow.specs.Draw.{normal_call}
use Rattle.spunmarrow.proofs.Cases.{face_read}
use Rattle.spunmarrow.proofs.draw.normal.Goals as goal

pub returns-in_err-face : goal.returns-in_err-face
unfolding normal_call
returns-in_err-face c = λ out. rw (handed_on _ _ c.from_residual.ensures.1, face_read _ _ c.ranges.sign c.in_err-face.ensures)

pub returns-in_err-normals : goal.returns-in_err-normals
unfolding normal_call
returns-in_err-normals c = λ out. rw (handed_on _ _ c.from_residual-in_err-normals.ensures.1, face_read _ _ c.ranges.sign c.in_ok-face.ensures, ← c.in_err-normals.ensures)

pub returns : goal.returns
unfolding normal_call
returns c = λ out. rw (face_read _ _ c.ranges.sign c.in_ok-face.ensures, ← c.in_ok-normals.ensures)
