-- Every public function's contract leaves one outcome: any two that it allows are equal. Each theorem is about the contract itself, as the function's generated `Reads` has it (`Post`), and not about a copy of it.
use mathlib.Core.Path.{◌≡◌, sym, ◌∙◌}
use contract.Lifetimes
use borrow.Fn.World
use borrow.Fn.Kinds
use denote.Triple.Clauses
use Rattle.geometry.proofs.One.{One}
use Rattle.digits.proofs.Written.{spelt_written, spelt_scratch}
use Rattle.digits.proofs.places.Reads as places
use Rattle.digits.specs.contracts.spell
use Rattle.digits.proofs.spell.Kinds as spell-kinds
use Rattle.digits.proofs.spell.Reads as spell-reads
use Rattle.digits.specs.contracts.decimal
use Rattle.digits.proofs.decimal.Kinds as decimal-kinds
use Rattle.digits.proofs.decimal.Reads as decimal-reads

pub places_unique : One places.Post
places_unique κs a r r' s s' p q = p ∙ sym q

-- Its outcome is the answer and the scratch at exit.
pub spell_unique : (κs : Lifetimes.Lfts 1) (a : World.ArgsD spell.signature κs) (r r' : World.ResD spell.signature κs)
    (s s' : Clauses.AtExit (Kinds.ended_of 1 spell-kinds.ps spell-kinds.r) κs)
    → spell-reads.Post κs a r s → spell-reads.Post κs a r' s'
    → (r ≡ r') × (s.1.0.now ≡ s'.1.0.now)
spell_unique κs a r r' s s' p q = (spelt_written (p ∙ sym q), spelt_scratch (p ∙ sym q))

-- Its outcome is the part that is handed back: which bytes it holds, and where it starts. The scratch itself is spent.
pub decimal_unique : (κs : Lifetimes.Lfts 1) (a : World.ArgsD decimal.signature κs) (r r' : World.ResD decimal.signature κs)
    (s s' : Clauses.AtExit (Kinds.ended_of 1 decimal-kinds.ps decimal-kinds.r) κs)
    → decimal-reads.Post κs a r s → decimal-reads.Post κs a r' s'
    → (r.now ≡ r'.now) × (r.ref_ptr ≡ r'.ref_ptr)
decimal_unique κs a r r' s s' p q = (p.0 ∙ sym q.0, p.1 ∙ sym q.1)
