-- Every public function's contract leaves one outcome: of any two that it allows, the answers are equal, and so are the outputs at exit. Each theorem is about the contract itself, as the function's generated `Reads` has it (`Post`), and not
-- about a copy of it.
use mathlib.Core.List.{List}
use mathlib.Core.Path.{◌≡◌, sym, ◌∙◌, ap}
use Prim.Native.Nat.{ℕ}
use contract.Lifetimes
use borrow.Fn.World
use borrow.Fn.Kinds
use denote.Triple.Clauses
use Rattle.geometry.proofs.One.{One, number_some, refusal_one}
use Rattle.writing.proofs.Outcome.{write_one}
use Rattle.saved.proofs.Writers.{parts}
use Rattle.std.specs.declared.result.Result.{Result}
use Rattle.std.specs.declared.result.Result.TheVariants.{Ok, Err}
use Rattle.geometry.specs.declared.face.OrientedBlockFace.{OrientedBlockFace}
use Rattle.geometry.specs.declared.refusal.Refusal.{Refusal}
use Rattle.geometry.specs.Answers.{meaning}
use Rattle.saved.specs.declared.SavedMesh.{SavedMesh}
use Rattle.saved.specs.Saved.{ReadAnswer, reader_answer, ReadOutcome, read_outcome}
use Rattle.saved.specs.contracts.write_saved
use Rattle.saved.proofs.write_saved.Kinds as write-saved-kinds
use Rattle.saved.proofs.write_saved.Reads as write-saved
use Rattle.saved.specs.contracts.read_saved
use Rattle.saved.proofs.read_saved.Kinds as read-saved-kinds
use Rattle.saved.proofs.read_saved.Reads as read-saved
use Rattle.saved.proofs.refusal_byte.Reads as refusal-byte

-- Equal outcomes of a reader have one answer and one output.
pub read_parts : {r r' : ReadAnswer} {last last' : List ℕ} → read_outcome r last ≡ read_outcome r' last' → (r ≡ r') × (last ≡ last')
read_parts e = (ap (λ (o : ReadOutcome). o.answer) e, ap (λ (o : ReadOutcome). o.out) e)

-- Results of a reader that give one answer are one: no refusal has the number of an accepted call.
read_one : (r r' : Result SavedMesh Refusal) → reader_answer (meaning r) ≡ reader_answer (meaning r') → r ≡ r'
read_one (Ok a) (Ok b) e =
    let made : List OrientedBlockFace → List ℕ → SavedMesh = λ faces counts. record { faces = faces; counts = counts } in
    ap Ok (ap (λ (m : ReadAnswer). made m.faces m.mesh.counts) e)
read_one (Ok a) (Err d) e = absurd (number_some d.reason (sym (ap (λ (m : ReadAnswer). m.mesh.refusal) e)))
read_one (Err d) (Ok b) e = absurd (number_some d.reason (ap (λ (m : ReadAnswer). m.mesh.refusal) e))
read_one (Err d) (Err d') e = ap Err (refusal_one d d' (ap (λ (m : ReadAnswer). m.mesh.refusal) e) (ap (λ (m : ReadAnswer). m.mesh.place) e))

pub write_saved_unique : (κs : Lifetimes.Lfts 2) (a : World.ArgsD write_saved.signature κs) (r r' : World.ResD write_saved.signature κs)
    (s s' : Clauses.AtExit (Kinds.ended_of 2 write-saved-kinds.ps write-saved-kinds.r) κs)
    → write-saved.Post κs a r s → write-saved.Post κs a r' s' → (r ≡ r') × (s.1.1.1.0.now ≡ s'.1.1.1.0.now)
write_saved_unique κs a r r' s s' p q = let both = parts (p ∙ sym q) in (write_one r r' both.0, both.1)

pub read_saved_unique : (κs : Lifetimes.Lfts 2) (a : World.ArgsD read_saved.signature κs) (r r' : World.ResD read_saved.signature κs)
    (s s' : Clauses.AtExit (Kinds.ended_of 2 read-saved-kinds.ps read-saved-kinds.r) κs)
    → read-saved.Post κs a r s → read-saved.Post κs a r' s' → (r ≡ r') × (s.1.0.now ≡ s'.1.0.now)
read_saved_unique κs a r r' s s' p q = let both = read_parts (p ∙ sym q) in (read_one r r' both.0, both.1)

pub refusal_byte_unique : One refusal-byte.Post
refusal_byte_unique κs a r r' s s' p q = p ∙ sym q
