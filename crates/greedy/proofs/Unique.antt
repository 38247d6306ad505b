-- The public function's contract leaves one outcome: of any two that it allows, the results are equal, and so are the visited bytes and the outputs at exit. The theorem is about
-- the contract itself, as the function's generated `Reads` has it (`Post`), and not about a copy of it.
use mathlib.Core.List.{List}
use mathlib.Core.Path.{◌≡◌, sym, ◌∙◌, ap}
use Prim.Native.Nat.{ℕ}
use Rattle.std.specs.declared.result.Result.{Result}
use Rattle.std.specs.declared.result.Result.TheVariants.{Ok, Err}
use Rattle.geometry.specs.declared.refusal.Refusal.{Refusal}
use Rattle.geometry.specs.Answers.{meaning}
use Rattle.geometry.proofs.One.{number_some, refusal_one}
use Rattle.greedy.specs.declared.GreedyMesh.{GreedyMesh}
use Rattle.greedy.specs.Greedy.{GreedyAnswer, greedy_answer, GreedyOutcome}
use contract.Lifetimes
use borrow.Fn.World
use borrow.Fn.Kinds
use denote.Triple.Clauses
use Rattle.greedy.specs.contracts.greedy_quads
use Rattle.greedy.proofs.greedy_quads.Kinds as greedy-quads-kinds
use Rattle.greedy.proofs.greedy_quads.Reads as greedy-quads

-- Results that give one answer are one: no refusal has the number of an accepted call.
greedy_one : (r r' : Result GreedyMesh Refusal) → greedy_answer (meaning r) ≡ greedy_answer (meaning r') → r ≡ r'
greedy_one (Ok a) (Ok b) e =
    let made : List ℕ → ℕ → GreedyMesh = λ counts tests. record { counts = counts; tests = tests } in
    ap Ok (ap (λ (m : GreedyAnswer). made m.mesh.counts m.tests) e)
greedy_one (Ok a) (Err d) e = absurd (number_some d.reason (sym (ap (λ (m : GreedyAnswer). m.mesh.refusal) e)))
greedy_one (Err d) (Ok b) e = absurd (number_some d.reason (ap (λ (m : GreedyAnswer). m.mesh.refusal) e))
greedy_one (Err d) (Err d') e = ap Err (refusal_one d d' (ap (λ (m : GreedyAnswer). m.mesh.refusal) e) (ap (λ (m : GreedyAnswer). m.mesh.place) e))

pub greedy_quads_unique : (κs : Lifetimes.Lfts 3) (a : World.ArgsD greedy_quads.signature κs) (r r' : World.ResD greedy_quads.signature κs)
    (s s' : Clauses.AtExit (Kinds.ended_of 3 greedy-quads-kinds.ps greedy-quads-kinds.r) κs)
    → greedy-quads.Post κs a r s → greedy-quads.Post κs a r' s'
    → (r ≡ r') × (s.1.1.1.1.1.0.now ≡ s'.1.1.1.1.1.0.now) × (s.1.1.1.1.1.1.0.now ≡ s'.1.1.1.1.1.1.0.now)
greedy_quads_unique κs a r r' s s' p q =
    let e = p ∙ sym q in
    (greedy_one r r' (ap (λ (o : GreedyOutcome). record { mesh = o.mesh.answer; tests = o.tests }) e), ap (λ (o : GreedyOutcome). o.visited_bytes) e, ap (λ (o : GreedyOutcome). o.mesh.out) e)
