-- `corners` meets its contract: a refusal of the face or of the quad, or the corners.
use Rattle.geometry.proofs.Answers.{handed_on}
use Rattle.spunmarrow.specs.Draw.{corners_call}
use Rattle.spunmarrow.proofs.Cases.{face_read}
use Rattle.spunmarrow.proofs.draw.corners.Goals as goal

pub returns-in_err-face : goal.returns-in_err-face
unfolding corners_call
returns-in_err-face c = λ out. rw (handed_on _ _ c.from_residual.ensures.1, face_read _ _ c.ranges.sign c.in_err-face.ensures)

pub returns-in_err-corners : goal.returns-in_err-corners
unfolding corners_call
returns-in_err-corners c = λ out. rw (handed_on _ _ c.from_residual-in_err-corners.ensures.1, face_read _ _ c.ranges.sign c.in_ok-face.ensures, ← c.quad.ensures, ← c.in_err-corners.ensures)

pub returns : goal.returns
unfolding corners_call
returns c = λ out. rw (face_read _ _ c.ranges.sign c.in_ok-face.ensures, ← c.quad.ensures, ← c.in_ok-corners.ensures)
