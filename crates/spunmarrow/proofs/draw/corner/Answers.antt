-- `corner` meets its contract: the first refusal among the face, the corner and the position, or the position.
use Rattle.geometry.proofs.Answers.{handed_on}
use Rattle.spunmarrow.specs.Draw.{corner_call}
use Rattle.spunmarrow.proofs.Cases.{face_read}
use Rattle.spunmarrow.proofs.draw.corner.Goals as goal

pub returns-in_err-face : goal.returns-in_err-face
unfolding corner_call
returns-in_err-face c = λ out. rw (handed_on _ _ c.from_residual.ensures.1, face_read _ _ c.ranges.sign c.in_err-face.ensures)

pub returns-in_err-which : goal.returns-in_err-which
unfolding corner_call
returns-in_err-which c = λ out. rw (handed_on _ _ c.from_residual-in_err-which.ensures.1, face_read _ _ c.ranges.sign c.in_ok-face.ensures, ← c.in_err-which.ensures)

pub returns-in_err-at : goal.returns-in_err-at
unfolding corner_call
returns-in_err-at c = λ out. rw (handed_on _ _ c.from_residual-in_err-at.ensures.1, face_read _ _ c.ranges.sign c.in_ok-face.ensures, ← c.in_ok-which.ensures, ← c.quad.ensures, ← c.in_err-at.ensures)

pub returns : goal.returns
unfolding corner_call
returns c = λ out. rw (face_read _ _ c.ranges.sign c.in_ok-face.ensures, ← c.in_ok-which.ensures, ← c.quad.ensures, ← c.in_ok-at.ensures)
