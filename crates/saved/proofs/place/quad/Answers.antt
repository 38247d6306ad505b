-- `quad` meets its contract: from wherever its loop has come to, what is left of the way leads to the quad.
use Rattle.std.proofs.lemmas.List.{take_rest}
use Rattle.saved.specs.Where.{from_quad}
use Rattle.saved.proofs.Reaching.{quad_short, quad_here, quad_next, quad_last}
use Rattle.saved.proofs.place.quad.Goals as goal

pub loop-init : goal.loop-init
unfolding from_quad
loop-init c = rw (c.quad_size-size.ensures, c.after-rest.ensures)

pub returns-then-rest-lt4 : goal.returns-then-rest-lt4
returns-then-rest-lt4 c = let l = c.loop in quad_short c.quad_size-size.result l.counter l.left l.rest.now l.invariant c.loop-test.true c.if-rest-lt4.true

pub returns-then-left-count : goal.returns-then-left-count
returns-then-left-count c =
    let l = c.loop in
    quad_here c.quad_size-size.result l.counter l.left l.rest.now l.invariant c.loop-test.true c.get-count.ensures c.if-left-count.true (rw take_rest at c.within.ensures)

pub loop-preserved : goal.loop-preserved
loop-preserved c =
    let l = c.loop in
    quad_next c.quad_size-size.result l.counter l.left l.rest.now l.invariant c.loop-test.true c.get-count.ensures c.if-left-count.false c.after-rest-in-loop.ensures

pub returns : goal.returns
returns c =
    let l = c.loop in
    quad_last c.quad_size-size.result l.counter l.left l.rest.now l.invariant c.loop-test.false
