-- `check` meets its contract: the bytes that are left decide as all six do.
use Rattle.std.proofs.Common.{sym, ap, ◌∙◌}
use Rattle.geometry.specs.Answers.{meaning}
use Rattle.saved.proofs.Codes.{six, byte_on, byte_stops, bytes_done}
use Rattle.saved.proofs.face_byte.check.Goals as goal

pub returns-in-Err : goal.returns-in-Err
returns-in-Err c = rw c.at.ensures (byte_stops (six c.args.bytes.now) c.loop-k.k c.loop-k.invariant c.loop-k-test.true (sym c.check_byte.ensures ∙ ap meaning c.in-Err.is))

pub loop-k-preserved : goal.loop-k-preserved
loop-k-preserved c = byte_on (six c.args.bytes.now) c.loop-k.k c.loop-k.invariant c.loop-k-test.true (sym c.check_byte.ensures ∙ ap meaning c.in_default.is)

pub returns : goal.returns
returns c = bytes_done (six c.args.bytes.now) c.loop-k.k c.loop-k.invariant c.loop-k-test.false
