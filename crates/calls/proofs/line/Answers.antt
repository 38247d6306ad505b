-- `line` writes the line and, where it is no comment, what comes out of its call.
use Rattle.std.proofs.Common.{sym, ◌∙◌}
use Rattle.calls.proofs.Listed.{comment_written, called_written}
use Rattle.calls.proofs.line.Goals as goal
use Rattle.calls.proofs.line.Goals.{then-not-starts_with+in_ok-write_all-2+in_ok-make, else-not-starts_with}

pub returns-clause-bytes : goal.returns-clause-bytes
returns-clause-bytes g c = elim c.if-not-starts_with.branch [
  | then-not-starts_with+in_ok-write_all-2+in_ok-make w ↦
      called_written (g.C.Calls.outcome c.args.calls.now c.args.notation) c.args.text.now c.cut.result.0.now
      _ _ _ (g.W.Write.contents w.make.new.out) _ c.cut.ensures.before
      (sym c.starts_with.ensures.value ∙ w.if-not-starts_with.true)
      c.in_ok-write_all.ensures.bytes w.in_ok-write_all-2.ensures.bytes
      (rw (w.first.ensures.notation, w.first.ensures.letter, w.first.ensures.rest) at w.in_ok-make.ensures)
      (rw w.out-is at c.in_ok-write_all-3.ensures.bytes)
  | else-not-starts_with w ↦
      comment_written _ c.args.text.now c.cut.result.0.now _ _ _ c.cut.ensures.before
      (sym c.starts_with.ensures.value ∙ w.if-not-starts_with.false)
      c.in_ok-write_all.ensures.bytes (rw w.out-is at c.in_ok-write_all-3.ensures.bytes)
]
