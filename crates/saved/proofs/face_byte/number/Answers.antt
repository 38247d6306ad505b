-- `number` meets its contract: a byte below 8 is the number, and any other is 8 more.
use Rattle.saved.proofs.Codes.{below_8, from_8}
use Rattle.saved.proofs.face_byte.number.Goals as goal

pub returns-then-byte-lt-MINUS : goal.returns-then-byte-lt-MINUS
returns-then-byte-lt-MINUS c = below_8 _ c.if-byte-lt-MINUS.true

pub returns : goal.returns
returns c = from_8 _ c.if-byte-lt-MINUS.false
