-- `check_sections` meets its contract: the sections that are left decide as all do.
use Rattle.std.proofs.Common.{rules, tests, ◌≡◌, ◌≤◌, length, arith}
use Rattle.saved.proofs.Places.{sections_stop, sections_on, sections_end}
use Rattle.saved.proofs.sections.check_sections.Goals as goal

pub returns-in-None : goal.returns-in-None
returns-in-None c =
    let l = c.loop-section in
    rw c.at.ensures (sections_stop c.args.size l.section 7 l.rest.now l.invariant c.loop-section-test.true c.in-None.ensures)

pub loop-section-preserved : goal.loop-section-preserved
loop-section-preserved c =
    let l = c.loop-section in
    sections_on c.args.size l.section 7 l.rest.now l.invariant c.loop-section-test.true c.in-Some.ensures.0 c.in-Some.ensures.1

pub returns-then-not-is_empty : goal.returns-then-not-is_empty
returns-then-not-is_empty c =
    let l = c.loop-section in
    let seven : l.section ≡ 7 = omega arith in
    let some : 1 ≤ length l.rest.now = search (rules, tests) in
    rw c.at-then-not-is_empty.ensures (rw seven at ((sections_end c.args.size l.section 7 l.rest.now l.invariant c.loop-section-test.false).0 some))

pub returns : goal.returns
returns c =
    let l = c.loop-section in
    let none : length l.rest.now ≡ 0 = search (rules, tests) in
    (sections_end c.args.size l.section 7 l.rest.now l.invariant c.loop-section-test.false).1 none
