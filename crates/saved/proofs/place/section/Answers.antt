-- `section` meets its contract: from wherever its loop has come to, what is left of the way leads to the section.
use Rattle.std.proofs.Common.{arith}
use Rattle.saved.proofs.Reaching.{section_0, section_start, section_next, section_end}
use Rattle.saved.proofs.place.section.Goals as goal

pub returns-then-section-eq0 : goal.returns-then-section-eq0
returns-then-section-eq0 c = section_0 c.args.bytes.now c.args.form.numbers c.if-section-eq0.true

pub loop-init : goal.loop-init
loop-init c = rw c.quad_size-size.ensures (section_start c.args.bytes.now c.args.form.numbers c.args.section c.if-section-eq0.false c.after-rest.ensures)

pub loop-preserved : goal.loop-preserved
loop-preserved c =
    let l = c.loop in
    section_next c.quad_size-size.result l.counter c.args.section l.rest.now l.invariant (omega arith) (omega arith) c.after-rest-in-loop.ensures

pub returns : goal.returns
returns c =
    let l = c.loop in
    section_end c.quad_size-size.result l.counter c.args.section l.rest.now l.invariant (omega arith)
