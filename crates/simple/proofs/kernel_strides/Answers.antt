-- `kernel_strides` meets its contract: each stride is that of its face.
use Rattle.std.proofs.Common.{arith}
use Rattle.std.proofs.lemmas.Grind.{common_steps}
use Rattle.simple.proofs.kernel_strides.Goals as goal

pub returns : goal.returns
returns c = grind (arith, common_steps)
