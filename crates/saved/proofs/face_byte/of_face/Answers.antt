-- `of_face` meets its contract: the permutation's number, and 8 more where the sign is -1.
use Rattle.std.proofs.Common.{rules}
use borrow.Author.Rules.{sfits_of}
use Rattle.geometry.specs.Axes.{minus_one}
use Rattle.geometry.proofs.Signs.{bits_equal, bits_differ}
use Rattle.saved.proofs.Codes.{byte_minus, byte_plus}
use Rattle.saved.proofs.face_byte.of_face.Goals as goal

pub returns-then-face-eq4294967295 : goal.returns-then-face-eq4294967295
returns-then-face-eq4294967295 c = byte_minus c.args.face c.from-number.ensures (bits_equal (sfits_of c.struct_told-1.given.0.1) (search rules) c.if-face-eq4294967295.true)

pub returns : goal.returns
returns c = byte_plus c.args.face c.from-number.ensures (bits_differ _ minus_one c.if-face-eq4294967295.false)
