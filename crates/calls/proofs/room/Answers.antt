-- `room` is as long as its promise says, and has nothing yet.
use Rattle.std.proofs.Common.{ℕ, sym, refl}
use lib.ListN.{length-replicate}
use Rattle.calls.specs.Lines.{no_bytes}
use Rattle.calls.proofs.room.Goals as goal

pub returns-clause-length : goal.returns-clause-length
returns-clause-length c = sym (length-replicate {0} {A = ℕ} 65536 0)

pub returns-clause-bytes : goal.returns-clause-bytes
unfolding no_bytes
returns-clause-bytes c = refl
