-- Every public function's contract leaves one outcome: any two that it allows are equal. Each theorem is about the contract itself, as the function's generated `Reads` has it (`Post`), and not about a copy of it.
use mathlib.Core.Path.{◌≡◌, sym, ◌∙◌}
use contract.Lifetimes
use borrow.Fn.World
use borrow.Fn.Kinds
use denote.Triple.Clauses
use Rattle.geometry.proofs.One.{One, meaning_one}
use Rattle.listing.proofs.answered.Reads as answered
use Rattle.listing.specs.contracts.push
use Rattle.listing.proofs.push.Kinds as push-kinds
use Rattle.listing.proofs.push.Reads as push-reads

pub answered_unique : One answered.Post
answered_unique κs a r r' s s' p q = meaning_one r r' (p ∙ sym q)

-- Its outcome is the output at exit.
pub push_unique : (κs : Lifetimes.Lfts 2) (a : World.ArgsD push.signature κs) (r r' : World.ResD push.signature κs)
    (s s' : Clauses.AtExit (Kinds.ended_of 2 push-kinds.ps push-kinds.r) κs)
    → push-reads.Post κs a r s → push-reads.Post κs a r' s' → s.0.now ≡ s'.0.now
push_unique κs a r r' s s' p q = p ∙ sym q
