-- `spelt` takes one digit more.
use Rattle.std.proofs.Common.{◌+◌, ◌*◌, ◌%◌, ◌^◌, ◌∙◌}
use Rattle.calls.specs.Text.{digit}
use Rattle.calls.proofs.Numbers.{taken_next, past_next}
use Rattle.calls.proofs.given.spelt.Goals as goal

pub loop-b-preserved : goal.loop-b-preserved
loop-b-preserved c =
    let text = c.in-Some.ensures.cases.0 in
    let d = c.in-Some-digit.ensures in
    record {
      number = taken_next (digit c.args.base) (λ n d. (n * c.args.base % 2 ^ 32 + d) % 2 ^ 32) c.loop-b.number c.in-Some.b.now c.in-Some-digit.d c.in-Some.past.now d ∙ rw text at c.loop-b.invariant.number;
      past = past_next (digit c.args.base) c.in-Some.b.now c.in-Some-digit.d c.in-Some.past.now d ∙ rw text at c.loop-b.invariant.past;
    }
