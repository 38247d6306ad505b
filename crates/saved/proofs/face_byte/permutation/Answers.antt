-- `permutation` meets its contract: what is found is the byte's, and where nothing is the table ends.
use mathlib.Core.Path.{◌∙◌}
use Rattle.saved.proofs.Codes.{permutation_or}
use Rattle.saved.proofs.face_byte.permutation.Goals as goal

pub returns : goal.returns
returns c = c.unwrap_or.ensures ∙ permutation_or _ c.number.ensures _ c.try_from.ensures
