-- `space::quads` is as long as its type says.
use Rattle.std.proofs.Common.{ℕ, sym}
use lib.ListN.{length-replicate}
use Rattle.saved_file.proofs.space.quads.Goals as goal

pub returns : goal.returns
returns c = sym (length-replicate {0} {A = ℕ} 655360 0)
