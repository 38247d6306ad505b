-- What a call leaves, from its entry and what it made: a refused entry leaves the output as it was, and an accepted one what laying the groups leaves.
use mathlib.Core.List.{List}
use mathlib.Core.Path.{◌≡◌, refl, sym, ◌∙◌, ap}
use Prim.Native.Nat.{ℕ, ◌<◌}
use native.Mathlib.Omega.{arith}
use lib.Dec.{ltb}
use lib.ListN.{length}
use borrow.Author.Tests.{ltb-true, ltb-false}
use Rattle.geometry.specs.Refusal.{Answer, accepted, refused, answer, follow}
use Rattle.std.specs.declared.result.Result.{Result}
use Rattle.std.specs.declared.result.Result.TheVariants.{Ok, Err}
use Rattle.geometry.specs.declared.refusal.Refusal.{Refusal}
use Rattle.geometry.specs.Answers.{meaning}
use Rattle.geometry.proofs.One.{number_some, refusal_one}
use Rattle.geometry.proofs.Refusals.{split}
use Rattle.listing.specs.Listing.{joined, capacity, too_many, lay}
use Rattle.listing.specs.Pushed.{MadeGroups}
use Rattle.listing.specs.Outcome.{MeshAnswer, mesh_answer, reported, listed_after, outcome, listed_outcome}
use Rattle.listing.proofs.Pushed.{lay_many, lay_fits}
use Rattle.listing.proofs.Groups.{laid_out, laid_answer}

-- Results that give one answer are one: no refusal has the number of an accepted call.
pub mesh_one : (r r' : Result (List ℕ) Refusal) → mesh_answer (meaning r) ≡ mesh_answer (meaning r') → r ≡ r'
mesh_one (Ok a) (Ok b) e = ap Ok (ap (λ (m : MeshAnswer). m.counts) e)
mesh_one (Ok a) (Err d) e = absurd (number_some d.reason (sym (ap (λ (m : MeshAnswer). m.refusal) e)))
mesh_one (Err d) (Ok b) e = absurd (number_some d.reason (ap (λ (m : MeshAnswer). m.refusal) e))
mesh_one (Err d) (Err d') e = ap Err (refusal_one d d' (ap (λ (m : MeshAnswer). m.refusal) e) (ap (λ (m : MeshAnswer). m.place) e))

-- The answer to groups that were made.
pub made_outcome : {A : Type 0} (numbers : ℕ) (numbers_of : A → List ℕ) → 0 < numbers → ((a : A) → length (numbers_of a) ≡ numbers)
    → {groups : List (List A)} {was out : List ℕ} {count : ℕ} {counts : List ℕ} → MadeGroups numbers numbers_of groups was out count counts
    → {room : ℕ} {r : MeshAnswer} → room ≡ capacity numbers (length was) → r ≡ mesh_answer (answer (too_many count room) counts) → outcome r out ≡ listed_outcome (lay numbers numbers_of groups was)
made_outcome numbers numbers_of some sized made is e =
    rw (e, laid_answer numbers numbers_of some sized made is, laid_out numbers numbers_of some sized made)

module _ {A : Type 0} (numbers : ℕ) (numbers_of : A → List ℕ) (groups : List (List A)) (out : List ℕ) where
  -- A refused entry,
  pub entry_refused : {entry : Answer (Unit {0})} {n p : ℕ} → entry ≡ refused n p → listed_after entry numbers numbers_of groups out ≡ record { answer = refused n p; out = out }
  unfolding listed_after
  entry_refused e = rw e

  -- and an accepted one.
  pub entry_passed : {entry : Answer (Unit {0})} → entry ≡ accepted tt → listed_after entry numbers numbers_of groups out ≡ lay numbers numbers_of groups out
  unfolding listed_after
  entry_passed e = rw e

-- A number that the entry never gives is the answer of a call whose entry passed.
pub entry_by_number : (entry : Answer (Unit {0})) (x : Answer (List ℕ)) {r : MeshAnswer} → r ≡ mesh_answer (follow entry x)
    → (m : ℕ) → r.refusal ≡ m → ((p : ℕ) → entry ≡ refused m p → ⊥) → entry ≡ accepted tt
entry_by_number (accepted u) x is m e other = refl
entry_by_number (refused n p) x is m e other =
    let number : n ≡ m = sym (ap (λ (a : MeshAnswer). a.refusal) is) ∙ e in
    absurd (other p (ap (λ (k : ℕ). refused k p) number))

-- Where a call answers 0, what it reports besides is reported.
pub zero_reported : {A : Type 0} (numbers : ℕ) (numbers_of : A → List ℕ) (groups : List (List A)) (was : List ℕ) {r : MeshAnswer} → r ≡ mesh_answer (lay numbers numbers_of groups was).answer
    → r.refusal ≡ 0 → (n : ℕ) → reported (lay numbers numbers_of groups was).answer n ≡ n
zero_reported numbers numbers_of groups was e is n =
    split (ltb (capacity numbers (length was)) (length (joined groups)))
    (λ t.
    let many = lay_many numbers numbers_of groups was (ltb-true _ _ t) in
    let nine = ap (λ (a : MeshAnswer). a.refusal) (e ∙ ap mesh_answer many) in
    absurd (omega arith))
    (λ f. ap (λ (a : Answer (List ℕ)). reported a n) (lay_fits numbers numbers_of groups was (ltb-false _ _ f)))
