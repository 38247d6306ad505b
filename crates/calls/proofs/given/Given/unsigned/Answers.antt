-- `Given::unsigned` reads digits, and goes on past the byte after them.
use Rattle.std.proofs.Common.{refl}
use Rattle.calls.proofs.Numbers.{unsigned_value, unsigned_rest}
use Rattle.calls.proofs.given.Given.unsigned.Goals as goal

pub returns : goal.returns
returns c = record {
  value = unsigned_value c.args.base c.spelt-number.result.0 c.args.self.now.rest.now c.spelt-number.ensures.number;
  rest = unsigned_rest c.args.base c.args.self.now.rest.now c.spelt-number.result.1.now c.past-self.result.now c.spelt-number.ensures.past c.past-self.ensures;
  notation = refl;
}
