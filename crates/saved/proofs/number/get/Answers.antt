-- `get` meets its contract: std's number of four bytes is theirs.
use Rattle.std.proofs.Common.{arith}
use Rattle.saved.proofs.Numbers.{number_of_four}
use Rattle.saved.proofs.number.get.Goals as goal

pub returns : goal.returns
returns c = omega (arith, number_of_four c.args.bytes.now c.requires)
