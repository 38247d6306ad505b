-- `face_at` meets its contract: two numbers make a face.
use Rattle.spunmarrow.proofs.Six.{face_or}
use Rattle.spunmarrow.proofs.numbers.face_at.Goals as goal

pub returns : goal.returns
returns c = rw c.unwrap_or.ensures (face_or _ _ _ c.permutation-arg-1.given c.permutation.ensures c.result-1.given)
