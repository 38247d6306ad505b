-- `Given::permutation` reads a number, and marks one that names no permutation.
use Rattle.std.proofs.Common.{sym}
use Rattle.calls.proofs.Orders.{named, unnamed}
use Rattle.calls.proofs.Listed.{appends_none}
use Rattle.calls.proofs.given.Given.permutation.Goals as goal

pub returns-in-Ok-clause-read : goal.returns-in-Ok-clause-read
returns-in-Ok-clause-read g c =
    let n = named c.number.result c.in-Ok.p c.in-Ok.ensures in
    let e = c.number.ensures.value in
    record { value = rw (← e) n.0; rest = c.number.ensures.rest; notation = c.number.ensures.notation }

pub returns-in-Ok-clause-mark : goal.returns-in-Ok-clause-mark
returns-in-Ok-clause-mark g c =
    let n = named c.number.result c.in-Ok.p c.in-Ok.ensures in
    let e = c.number.ensures.value in
    rw (← e, n.1) (appends_none (g.W.Write.contents c.args.out.now))

pub returns-in_ok-unknown-in-Err-clause-read : goal.returns-in_ok-unknown-in-Err-clause-read
returns-in_ok-unknown-in-Err-clause-read g c =
    let n = unnamed c.number.result _ _ c.in-Err.ensures in
    let e = c.number.ensures.value in
    record { value = rw (← e) (sym n.0); rest = c.number.ensures.rest; notation = c.number.ensures.notation }

pub returns-in_ok-unknown-in-Err-clause-mark : goal.returns-in_ok-unknown-in-Err-clause-mark
returns-in_ok-unknown-in-Err-clause-mark g c =
    let n = unnamed c.number.result _ _ c.in-Err.ensures in
    let e = c.number.ensures.value in
    rw (← e, n.1) c.in_ok-unknown-in-Err.ensures
