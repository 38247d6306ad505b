-- What a writer answers and leaves: document 02, first request. "15, output too short (place 0)"; on a refusal "nothing written"; "what isn't written stays, in the output too". Every writer shares it, whatever its bytes are.
use Rattle.std.specs.Prelude.{List, [], ◌∷◌, ◌++◌, ℕ, ltb, length}
use Rattle.geometry.specs.Refusal.{Answer, accepted, refused, Check, at_place0, answer}
use Rattle.listing.specs.Listing.{overwritten}

-- Refusal 15: "output too short (place 0)", for so many bytes in an output so long. Bytes that just fit are not refused.
abbrev pub short_output : ℕ → ℕ → List Check
short_output bytes long = at_place0 15 (ltb long bytes) ∷ []

-- Document 02's answer of a writer: the refusal number, or 0 where the call was accepted; its place, or 0; and how many bytes stand at the start of the output.
pub record WriteAnswer : Type 0 where
  pub refusal : ℕ
  pub place : ℕ
  pub written : ℕ

-- All that a writer leaves: its answer, and the output at exit.
pub record WriteOutcome : Type 0 where
  pub answer : WriteAnswer
  pub out : List ℕ

-- The outcome of an answer and an output.
abbrev pub outcome : WriteAnswer → List ℕ → WriteOutcome
outcome answer out = record { answer = answer; out = out }

-- The answer of a refused writer: the number and the place, and no byte written.
abbrev pub refused_answer : ℕ → ℕ → WriteAnswer
refused_answer n p = record { refusal = n; place = p; written = 0 }

-- The answer of a writer that wrote so many bytes.
abbrev pub accepted_answer : ℕ → WriteAnswer
accepted_answer bytes = record { refusal = 0; place = 0; written = bytes }

-- The answer of so many bytes or a refusal. In the code a writer gives a `Result`, whose value is the bytes: what it means (geometry's `meaning`) is made the answer here.
abbrev pub write_answer : Answer ℕ → WriteAnswer
write_answer (accepted bytes) = accepted_answer bytes
write_answer (refused n p) = refused_answer n p

-- From what is to be written or the refusal, and the output as it was: the bytes stand at its start and what is past them stays, or nothing has changed.
abbrev pub written : Answer (List ℕ) → List ℕ → WriteOutcome
written (accepted bytes) out = outcome (accepted_answer (length bytes)) (overwritten bytes out)
written (refused n p) out = outcome (refused_answer n p) out

-- Bytes written after some checks, and after 15 by how many they are.
unfoldable pub written_after : List Check → List ℕ → List ℕ → WriteOutcome
written_after checks bytes out = written (answer (checks ++ short_output (length bytes) (length out)) bytes) out
