-- `tex_coords` meets its contract: the first refusal among the face, the axis and the quad, or the pairs.
use Rattle.geometry.proofs.Answers.{handed_on}
use Rattle.spunmarrow.specs.Draw.{tex_coords_call}
use Rattle.spunmarrow.proofs.Cases.{face_read}
use Rattle.spunmarrow.proofs.draw.tex_coords.Goals as goal

pub returns-in_err-face : goal.returns-in_err-face
unfolding tex_coords_call
returns-in_err-face c = λ out. rw (handed_on _ _ c.from_residual.ensures.1, face_read _ _ c.ranges.sign c.in_err-face.ensures)

pub returns-in_err-axis : goal.returns-in_err-axis
unfolding tex_coords_call
returns-in_err-axis c = λ out. rw (handed_on _ _ c.from_residual-in_err-axis.ensures.1, face_read _ _ c.ranges.sign c.in_ok-face.ensures, ← c.in_err-axis.ensures)

pub returns-in_err-pairs : goal.returns-in_err-pairs
unfolding tex_coords_call
returns-in_err-pairs c = λ out. rw (handed_on _ _ c.from_residual-in_err-pairs.ensures.1, face_read _ _ c.ranges.sign c.in_ok-face.ensures, ← c.in_ok-axis.ensures, ← c.quad.ensures, ← c.in_err-pairs.ensures)

pub returns : goal.returns
unfolding tex_coords_call
returns c = λ out. rw (face_read _ _ c.ranges.sign c.in_ok-face.ensures, ← c.in_ok-axis.ensures, ← c.quad.ensures, ← c.in_ok-pairs.ensures)
