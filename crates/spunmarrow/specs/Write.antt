-- The writers' calls (include/spunmarrow.h, 'writing'). 17 comes before document 02's numbers: then the output is as it was and no byte is written.
use Rattle.std.specs.Prelude.{List, [], ◌∷◌, ℕ, ℤ, get_or}
use Rattle.geometry.specs.Refusal.{Answer, accepted, refused, checked}
use Rattle.writing.specs.Written.{WriteAnswer, WriteOutcome, refused_answer}
use Rattle.obj.specs.Obj.{write_obj}
use Rattle.spunmarrow.specs.Faces.{bad_numbers, faces_of}

-- Six counts.
unfoldable pub counts_of : List ℕ → List ℕ
counts_of numbers = get_or numbers 0 0 ∷ get_or numbers 1 0 ∷ get_or numbers 2 0 ∷ get_or numbers 3 0 ∷ get_or numbers 4 0 ∷ get_or numbers 5 0 ∷ []

-- An answer's three numbers: the refusal, or 0 where the call is accepted; its place; the bytes written.
abbrev pub three : WriteAnswer → List ℕ
three a = a.refusal ∷ a.place ∷ a.written ∷ []

-- All that a call of a writer leaves: its answer, and the output at exit.
pub record WriteLeft : Type 0 where
  pub answer : List ℕ
  pub out : List ℕ

-- The outcome of an answer and an output.
abbrev pub write_left : List ℕ → List ℕ → WriteLeft
write_left answer out = record { answer = answer; out = out }

-- From what the faces' check says, the outcome of the writer, and the output as it was.
abbrev pub write_after : Answer (Unit {0}) → WriteOutcome → List ℕ → WriteLeft
write_after (accepted u) o out = write_left (three o.answer) o.out
write_after (refused n p) o out = write_left (three (refused_answer n p)) out

-- The whole outcome of a call that writes a mesh as OBJ text: 17, then what `write_obj` leaves.
unfoldable pub obj_call : List ℤ → List ℕ → List ℕ → List ℕ → WriteLeft
obj_call faces counts list out = write_after (checked (bad_numbers faces)) (write_obj (faces_of faces) (counts_of counts) list out) out
