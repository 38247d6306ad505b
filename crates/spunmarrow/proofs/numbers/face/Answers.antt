-- `face` meets its contract: the permutation is the one of its number, and the sign is the integer of its bits.
use mathlib.Core.Path.{◌∙◌}
use Rattle.geometry.proofs.Answers.{handed_on}
use Rattle.spunmarrow.proofs.Cases.{face_made, face_refused}
use Rattle.spunmarrow.proofs.numbers.face.Goals as goal

pub returns-in_err-permutation : goal.returns-in_err-permutation
returns-in_err-permutation c = handed_on _ _ c.from_residual.ensures.1 ∙ face_refused _ _ c.in_err-permutation.ensures

pub returns : goal.returns
returns c = face_made _ _ c.ranges.sign c.in_ok-permutation.ensures
