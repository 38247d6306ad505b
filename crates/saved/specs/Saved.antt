-- The whole outcomes of the two calls: document 02, second request. "The writer refuses as the OBJ writer does. Refusals change nothing."
use Rattle.std.specs.Prelude.{List, map, ℕ, length, take, replicate}
use Rattle.geometry.specs.declared.axis.AxisPermutation.TheVariants.{Xyz}
use Rattle.geometry.specs.declared.face.OrientedBlockFace.{OrientedBlockFace}
use Rattle.geometry.specs.Axes.{one}
use Rattle.geometry.specs.Refusal.{Answer, accepted, refused, Check, answer, and_then}
use Rattle.listing.specs.Listing.{joined, overwritten, capacity, too_many}
use Rattle.listing.specs.Outcome.{MeshAnswer, mesh_answer}
use Rattle.listing.specs.Cut
use Rattle.writing.specs.Handed.{five_checks}
use Rattle.writing.specs.Written.{WriteOutcome, written_after}
use Rattle.saved.specs.declared.SavedMesh.{SavedMesh}
use Rattle.saved.specs.Form.{Form, first_form, Mesh}
use Rattle.saved.specs.Layout.{bytes}
use Rattle.saved.specs.Read.{parse}

-- ---- the writer

-- The mesh that is handed in: the counts cut the groups out of the list, each quad with the form's numbers.
unfoldable pub handed_mesh : Form → List OrientedBlockFace → List ℕ → List ℕ → Mesh
handed_mesh form faces counts list = record { faces = faces; groups = Cut.groups_in form.numbers (take form.numbers) counts list }

-- Its file.
abbrev pub file_of : Form → List OrientedBlockFace → List ℕ → List ℕ → List ℕ
file_of form faces counts list = bytes form (handed_mesh form faces counts list)

-- A mesh written in a form after some checks, and after 15 by the file's exact length.
unfoldable pub write_form : Form → List Check → List OrientedBlockFace → List ℕ → List ℕ → List ℕ → WriteOutcome
write_form form checks faces counts list out = written_after checks (file_of form faces counts list) out

-- "The writer refuses as the OBJ writer does": 24, 6, 12, 13, 15, of quads of five numbers.
unfoldable pub write_saved : List OrientedBlockFace → List ℕ → List ℕ → List ℕ → WriteOutcome
write_saved faces counts list out = write_form first_form (five_checks faces counts list) faces counts list out

-- ---- the reader

-- How many quads a mesh has.
abbrev pub quad_count : Mesh → ℕ
quad_count m = length (joined m.groups)

-- Its numbers as they stand in an output, quad by quad, group by group.
abbrev pub mesh_numbers : Mesh → List ℕ
mesh_numbers m = joined (joined m.groups)

-- "then 9": the mesh of a file, for an output so long. 9's place is the output's capacity in quads.
unfoldable pub fitting : Form → List ℕ → ℕ → Answer Mesh
fitting form b long = and_then (parse form b) (λ (m : Mesh). answer (too_many (quad_count m) (capacity form.numbers long)) m)

-- The faces of a refused reader's answer: six of sign 1 and of Xyz.
abbrev pub no_faces : List OrientedBlockFace
no_faces = replicate 6 (record { n_sign = one; permutation = Xyz })

-- Document 02's answer of a reader: the refusal number, its place and the counts, and the six faces.
pub record ReadAnswer : Type 0 where
  pub mesh : MeshAnswer
  pub faces : List OrientedBlockFace

-- What a reader answers: the faces and the six counts, or the refusal, "zeros for all counts" and no faces.
abbrev pub read_answer : Answer Mesh → ReadAnswer
read_answer (accepted m) = record { mesh = mesh_answer (accepted (map length m.groups)); faces = m.faces }
read_answer (refused n p) = record { mesh = mesh_answer (refused n p); faces = no_faces }

-- The same of the faces and the counts. In the code a reader gives a `Result`, whose value is these: what it means (geometry's `meaning`) is made the answer here.
abbrev pub reader_answer : Answer SavedMesh → ReadAnswer
reader_answer (accepted m) = record { mesh = mesh_answer (accepted m.counts); faces = m.faces }
reader_answer (refused n p) = record { mesh = mesh_answer (refused n p); faces = no_faces }

-- What it leaves in the output: the quads at its start, and what is past them stays; or, by any refusal, 9 among them, what was there: "Refusals change nothing."
abbrev pub read_out : Answer Mesh → List ℕ → List ℕ
read_out (accepted m) out = overwritten (mesh_numbers m) out
read_out (refused n p) out = out

-- All that a reader leaves: its answer, and the output at exit.
pub record ReadOutcome : Type 0 where
  pub answer : ReadAnswer
  pub out : List ℕ

-- The outcome of an answer and an output.
abbrev pub read_outcome : ReadAnswer → List ℕ → ReadOutcome
read_outcome answer out = record { answer = answer; out = out }

-- A file of a form, read.
unfoldable pub read_form : Form → List ℕ → List ℕ → ReadOutcome
read_form form b out = read_outcome (read_answer (fitting form b (length out))) (read_out (fitting form b (length out)) out)

-- 16, 17, 12, 9, of the first form.
unfoldable pub read_saved : List ℕ → List ℕ → ReadOutcome
read_saved b out = read_form first_form b out
