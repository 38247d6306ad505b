-- The public function's contract leaves one outcome: of any two that it allows, the answers are equal, and so are the outputs at exit. The theorem is about the contract itself, as the function's generated `Reads` has it (`Post`), and not
-- about a copy of it.
use mathlib.Core.Path.{◌≡◌, sym, ◌∙◌}
use contract.Lifetimes
use borrow.Fn.World
use borrow.Fn.Kinds
use denote.Triple.Clauses
use Rattle.writing.proofs.Outcome.{write_one}
use Rattle.obj.proofs.Outcome.{parts}
use Rattle.obj.specs.contracts.write_obj
use Rattle.obj.proofs.write_obj.Kinds as write-obj-kinds
use Rattle.obj.proofs.write_obj.Reads as write-obj

pub write_obj_unique : (κs : Lifetimes.Lfts 2) (a : World.ArgsD write_obj.signature κs) (r r' : World.ResD write_obj.signature κs)
    (s s' : Clauses.AtExit (Kinds.ended_of 2 write-obj-kinds.ps write-obj-kinds.r) κs)
    → write-obj.Post κs a r s → write-obj.Post κs a r' s' → (r ≡ r') × (s.1.1.1.0.now ≡ s'.1.1.1.0.now)
write_obj_unique κs a r r' s s' p q = let both = parts (p ∙ sym q) in (write_one r r' both.0, both.1)
