-- `run` goes on by `line_then`, and ends where no text is left.
use Rattle.std.proofs.Common.{rules, ◌≡◌, ◌<◌, length}
use Rattle.calls.proofs.Listed.{line_then, written_end}
use Rattle.calls.proofs.run.Goals as goal

pub loop-rest-preserved : goal.loop-rest-preserved
loop-rest-preserved g c =
    let some : 0 < length c.loop-rest.rest.now = search rules in
    line_then _ _ _ _ _ _ some c.in_ok-rest.ensures.rest c.loop-rest.invariant c.in_ok-rest.ensures.bytes

pub returns : goal.returns
returns g c =
    let none : length c.loop-rest.rest.now ≡ 0 = search rules in
    c.loop-rest.invariant (g.W.Write.contents c.loop-rest.out) (written_end _ _ _ none)
