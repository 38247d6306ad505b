-- The public function's contract leaves one outcome: of any two that it allows, the results are equal and the outputs at exit are equal. The theorem is about the
-- contract itself, as the function's generated `Reads` has it (`Post`), and not about a copy of it.
use mathlib.Core.Path.{◌≡◌, sym, ◌∙◌, ap}
use Rattle.listing.specs.Outcome.{MeshOutcome}
use Rattle.listing.proofs.Outcome.{mesh_one}
use contract.Lifetimes
use borrow.Fn.World
use borrow.Fn.Kinds
use denote.Triple.Clauses
use Rattle.simple.specs.contracts.visible_block_faces
use Rattle.simple.proofs.visible_block_faces.Kinds as visible-block-faces-kinds
use Rattle.simple.proofs.visible_block_faces.Reads as visible-block-faces

pub visible_block_faces_unique : (κs : Lifetimes.Lfts 2) (a : World.ArgsD visible_block_faces.signature κs) (r r' : World.ResD visible_block_faces.signature κs)
    (s s' : Clauses.AtExit (Kinds.ended_of 2 visible-block-faces-kinds.ps visible-block-faces-kinds.r) κs)
    → visible-block-faces.Post κs a r s → visible-block-faces.Post κs a r' s'
    → (r ≡ r') × (s.1.1.1.1.1.0.now ≡ s'.1.1.1.1.1.0.now)
visible_block_faces_unique κs a r r' s s' p q =
    let e = p ∙ sym q in
    (mesh_one r r' (ap (λ (o : MeshOutcome). o.answer) e), ap (λ (o : MeshOutcome). o.out) e)
