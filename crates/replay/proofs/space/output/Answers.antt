-- `space::output` is as long as its type says.
use Rattle.std.proofs.Common.{ℕ, sym}
use lib.ListN.{length-replicate}
use Rattle.replay.proofs.space.output.Goals as goal

pub returns : goal.returns
returns c = sym (length-replicate {0} {A = ℕ} 4096 0)
