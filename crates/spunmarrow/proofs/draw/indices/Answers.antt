-- `indices` meets its contract: a refusal of the face or of the first index, or the indices.
use Rattle.geometry.proofs.Answers.{handed_on}
use Rattle.spunmarrow.specs.Draw.{indices_call}
use Rattle.spunmarrow.proofs.Cases.{face_read}
use Rattle.spunmarrow.proofs.draw.indices.Goals as goal

pub returns-in_err-face : goal.returns-in_err-face
unfolding indices_call
returns-in_err-face c = λ out. rw (handed_on _ _ c.from_residual.ensures.1, face_read _ _ c.ranges.sign c.in_err-face.ensures)

pub returns-in_err-i : goal.returns-in_err-i
unfolding indices_call
returns-in_err-i c = λ out. rw (handed_on _ _ c.from_residual-in_err-i.ensures.1, face_read _ _ c.ranges.sign c.in_ok-face.ensures, ← c.in_err-i.ensures)

pub returns : goal.returns
unfolding indices_call
returns c = λ out. rw (face_read _ _ c.ranges.sign c.in_ok-face.ensures, ← c.in_ok-i.ensures)
