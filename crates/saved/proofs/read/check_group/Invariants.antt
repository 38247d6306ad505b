use Rattle.std.proofs.Common.{◌≡◌, ◌+◌, length, drop}
use Rattle.geometry.specs.Refusal.{checked}
use Rattle.saved.specs.Bytes.{pieces}
use Rattle.saved.specs.Form.{quad_size}
use Rattle.saved.specs.Private.{bad_quads_of}
use Rattle.saved.proofs.Asking.{bad_pieces}
use Rattle.saved.proofs.read.check_group.Given as goal

abbrev pub invariant-loop-k : goal.invariant-loop-k
invariant-loop-k l =
    checked (bad_pieces l.fn.form.numbers l.fn.face (l.first + length l.yielded) (drop (length l.yielded) (pieces (quad_size l.fn.form.numbers) l.fn.section.count l.fn.section.records.now)))
    ≡ checked (bad_quads_of l.fn.form.numbers l.fn.face l.first l.fn.section.count l.fn.section.records.now)
