-- `answered` meets its contract.
use mathlib.Core.Path.{sym}
use borrow.Author.Tests.{lt-ltb, le-ltb}
use Rattle.geometry.specs.Refusal.{answer}
use Rattle.geometry.proofs.Refusals.{applies}
use Rattle.listing.proofs.answered.Goals as goal

pub returns-then-capacity-listed : goal.returns-then-capacity-listed
returns-then-capacity-listed c = rw c.at.ensures (sym (applies _ _ _ (lt-ltb _ _ c.if-capacity-listed.true)))

pub returns : goal.returns
unfolding answer
returns c = rw (le-ltb _ _ c.if-capacity-listed.false)
