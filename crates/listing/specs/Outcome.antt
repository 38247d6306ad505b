-- What a mesher's call answers and leaves: document 01, 'Refusal numbers', what stands below the table. All meshers share it: the answer has the refusal, its place and the six counts, and what a mesher reports besides, such
-- as the tests, stands beside it. In the code a mesher gives a `Result`, whose value is the counts: what it means (geometry's `meaning`) is made the answer here (`mesh_answer`).
use Rattle.std.specs.Prelude.{List, ℕ, replicate}
use Rattle.geometry.specs.Refusal.{Answer, accepted, refused, follow}
use Rattle.listing.specs.Listing.{Laid, lay, at_exit}

-- Document 01's answer: the refusal number, or 0 where the call was accepted; its place, or 0; and how many quads each of the six groups has.
pub record MeshAnswer : Type 0 where
  pub refusal : ℕ
  pub place : ℕ
  pub counts : List ℕ

-- The answer of the counts or a refusal: "A refusal gives zeros for all counts."
abbrev pub mesh_answer : Answer (List ℕ) → MeshAnswer
mesh_answer (accepted counts) = record { refusal = 0; place = 0; counts = counts }
mesh_answer (refused n p) = record { refusal = n; place = p; counts = replicate 6 0 }

-- A number that a mesher reports beside the counts: zero where the call is refused.
abbrev pub reported : Answer (List ℕ) → ℕ → ℕ
reported (accepted counts) n = n
reported (refused m p) n = 0

-- Groups listed after an entry: where the entry checks refuse, that is the answer, and "After 1 to 8 no buffer has changed"; where they pass the groups are laid.
unfoldable pub listed_after : {A : Type 0} → Answer (Unit {0}) → ℕ → (A → List ℕ) → List (List A) → List ℕ → Laid
listed_after entry numbers numbers_of groups out =
    let laid : Laid = lay numbers numbers_of groups out in
    record { answer = follow entry laid.answer; out = at_exit entry laid.out out }

-- All that a mesher leaves who reports nothing besides: its answer, and the output at exit.
pub record MeshOutcome : Type 0 where
  pub answer : MeshAnswer
  pub out : List ℕ

-- The outcome of an answer and an output.
abbrev pub outcome : MeshAnswer → List ℕ → MeshOutcome
outcome answer out = record { answer = answer; out = out }

-- The outcome of what listing leaves.
abbrev pub listed_outcome : Laid → MeshOutcome
listed_outcome laid = outcome (mesh_answer laid.answer) laid.out
