-- `check_byte` meets its contract: a byte is in the code where a permutation has its number.
use mathlib.Core.Path.{sym, ◌∙◌}
use Rattle.geometry.proofs.Answers.{handed_on}
use Rattle.saved.proofs.Codes.{code_passes, code_refused}
use Rattle.saved.proofs.face_byte.check_byte.Goals as goal

pub returns-in_err-try_from : goal.returns-in_err-try_from
returns-in_err-try_from c = handed_on _ _ c.from_residual.ensures.1 ∙ code_refused _ c.number.ensures (sym c.in_err-try_from.ensures)

pub returns : goal.returns
returns c = code_passes _ c.number.ensures (sym c.in_ok-try_from.ensures)
