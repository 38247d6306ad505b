-- `byte` meets its contract: so many bytes stand before what is left of the file.
use Rattle.std.proofs.Common.{arith, ap, length, length-drop}
use Rattle.saved.specs.Where.{refusal_byte}
use Rattle.saved.specs.Private.{form_of}
use Rattle.saved.proofs.Standing.{refusal_from}
use Rattle.saved.proofs.place.byte.Goals as goal

pub overflow_sub-result : goal.overflow_sub-result
overflow_sub-result c =
    let a = c.args in
    let from = refusal_from (form_of a.form) a.number a.place a.bytes.now in
    rw c.standing-left.ensures (omega (arith, ap length from.is, length-drop (refusal_byte (form_of a.form) a.number a.place a.bytes.now) a.bytes.now))

pub returns : goal.returns
unfolding refusal_byte
returns c = rw c.standing-left.ensures
