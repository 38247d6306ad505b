-- `face` meets its contract: a byte below 8 stands for sign 1, and any other for -1.
use Rattle.saved.proofs.Codes.{face_below_8, face_from_8}
use Rattle.saved.proofs.face_byte.face.Goals as goal

pub returns-then-byte-lt-MINUS : goal.returns-then-byte-lt-MINUS
returns-then-byte-lt-MINUS c = face_below_8 _ c.permutation-found.ensures c.if-byte-lt-MINUS.true

pub returns : goal.returns
returns c = face_from_8 _ c.permutation-found.ensures c.if-byte-lt-MINUS.false
