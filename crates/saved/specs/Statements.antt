-- What is shown of a saved form and of the two calls. "Where both are accepted, each undoes the other." The proofs stand in proofs/Roundtrip.antt, Cut.antt, Size.antt, Savable.antt, Outcome.antt and Calls.antt.
use Rattle.std.specs.Prelude.{Bool, true, ◌||◌, List, ◌≡◌, ℕ, ◌+◌, ◌-◌, ◌*◌, ◌/◌, ◌≤◌, ◌<◌, ◌^◌, eqb, length, take, drop, replicate}
use Rattle.geometry.specs.declared.face.OrientedBlockFace.{OrientedBlockFace}
use Rattle.geometry.specs.Checks.{proper_sign}
use Rattle.geometry.specs.Refusal.{accepted, refused, checked}
use Rattle.geometry.specs.Lists.{Each}
use Rattle.listing.specs.Listing.{overwritten, capacity}
use Rattle.listing.specs.Outcome.{mesh_answer}
use Rattle.writing.specs.Handed.{total, most_quads, five_checks}
use Rattle.writing.specs.Written.{WriteAnswer, refused_answer, accepted_answer}
use Rattle.writing.specs.Statements.{WithinQuad}
use Rattle.saved.specs.Leaves.{WriterLeaves}
use Rattle.saved.specs.Form.{Form, first_form, Mesh}
use Rattle.saved.specs.Read.{mesh_quads, read_checks, parse}
use Rattle.saved.specs.Saved.{handed_mesh, file_of, no_faces, ReadAnswer, read_answer}

-- ---- a mesh that can be saved

-- A number fits 32 bits.
abbrev pub Fits : ℕ → Type 0
Fits n = n < 2 ^ 32

-- A quad has so many numbers, of 32 bits each.
pub record Sized (numbers : ℕ) (q : List ℕ) : Type 0 where
  pub long : length q ≡ numbers
  pub fit : Each Fits q

-- A group has fewer than 2 to the 32nd quads.
pub record Countable (numbers : ℕ) (g : List (List ℕ)) : Type 0 where
  pub few : Fits (length g)
  pub sized : Each (Sized numbers) g

-- A mesh that can be saved: six faces of proper signs and a group for each, whose counts and numbers fit, and no quad outside the limits on its group's face.
pub record Ok (form : Form) (m : Mesh) : Type 0 where
  pub six : length m.faces ≡ 6
  pub proper : Each (λ (f : OrientedBlockFace). proper_sign f.n_sign ≡ true) m.faces
  pub groups : length m.groups ≡ 6
  pub countable : Each (Countable form.numbers) m.groups
  pub within : Each WithinQuad (mesh_quads m)

-- The same of the first form in fewer words (`savable_ok`): that the numbers fit need not be asked, since within the limits none is above 256.
pub record Savable (m : Mesh) : Type 0 where
  pub six : length m.faces ≡ 6
  pub proper : Each (λ (f : OrientedBlockFace). proper_sign f.n_sign ≡ true) m.faces
  pub groups : length m.groups ≡ 6
  pub few : Each (λ (g : List (List ℕ)). length g < 2 ^ 32) m.groups
  pub five : Each (Each (λ (q : List ℕ). length q ≡ 5)) m.groups
  pub within : Each WithinQuad (mesh_quads m)

-- ---- what a call of the writer leaves

-- Of any call with six faces and six counts, by its answer and its output at exit (`write_holds`):
pub record WriteHolds (faces : List OrientedBlockFace) (counts list out : List ℕ) (w : WriteAnswer) (last : List ℕ) : Type 0 where
  -- it leaves what every writer does, with the file for its bytes and 24, 6, 12 and 13 for its checks;
  pub leaves : WriterLeaves (five_checks faces counts list) (file_of first_form faces counts list) out w last
  -- where it answers 0 it wrote 34 bytes, and 20 for each quad,
  pub size : w.refusal ≡ 0 → w.written ≡ 34 + 20 * total counts
  -- which are read as the mesh that was handed in;
  pub reads : w.refusal ≡ 0 → parse first_form (take w.written last) ≡ accepted (handed_mesh first_form faces counts list)
  -- and 15 is never given with room for so many.
  pub room : 34 + 20 * total counts ≤ length out → w.refusal ≡ 15 → ⊥

-- ---- what a call of the reader leaves

-- None of 16, 17 and 12 refuses a file, so that 9 alone is left to its reader.
abbrev pub FilePasses : List ℕ → Type 0
FilePasses b = checked (read_checks first_form b) ≡ accepted tt

-- Whether a number is one that the reader answers.
abbrev pub read_number : ℕ → Bool
read_number n = eqb n 0 || eqb n 16 || eqb n 17 || eqb n 12 || eqb n 9

-- Of any call on bytes, by its answer and its output at exit (`read_holds`):
pub record ReadHolds (b out : List ℕ) (r : ReadAnswer) (last : List ℕ) : Type 0 where
  -- the refusal is 0, 16, 17, 12 or 9;
  pub known : read_number r.mesh.refusal ≡ true
  -- where it is 0 the file's mesh is what the answer's faces and counts and the output hand in, as a writer takes it,
  pub mesh : r.mesh.refusal ≡ 0 → parse first_form b ≡ accepted (handed_mesh first_form r.faces r.mesh.counts last)
  -- and can be saved: its faces, which are the answer's, are six and proper, and its quads are within the limits;
  pub ok : r.mesh.refusal ≡ 0 → Ok first_form (handed_mesh first_form r.faces r.mesh.counts last)
  -- the file has 34 bytes, and 20 for each quad,
  pub size : r.mesh.refusal ≡ 0 → length b ≡ 34 + 20 * total r.mesh.counts
  -- and the output holds their numbers;
  pub holds : r.mesh.refusal ≡ 0 → 5 * total r.mesh.counts ≤ length out
  -- past these the output stays, always;
  pub stays : drop (5 * total r.mesh.counts) last ≡ drop (5 * total r.mesh.counts) out
  -- where it is anything else there are no counts and no faces, and nothing is written;
  pub untouched : 1 ≤ r.mesh.refusal → (r.mesh.counts ≡ replicate 6 0) × (r.faces ≡ no_faces) × (last ≡ out)
  -- 9 is given, with the output's capacity as its place, where nothing else is refused and the output is shorter than the quads' numbers, and only there.
  pub many : r.mesh.refusal ≡ 9 → FilePasses b × (length out < (length b - 34) / 4) × (r.mesh.place ≡ capacity 5 (length out))
  pub given : FilePasses b → length out < (length b - 34) / 4 → r ≡ read_answer (refused 9 (capacity 5 (length out)))

-- ---- "Where both are accepted, each undoes the other"

-- Of a call of the reader on the bytes that a call of the writer wrote, by what was handed to the writer (`write_then_read`):
pub record ReadsBack (faces : List OrientedBlockFace) (counts list out : List ℕ) (r : ReadAnswer) (last : List ℕ) : Type 0 where
  -- with capacity for the quads it gives the faces and the counts, and the list's own numbers stand at the start of its output, past which nothing changes;
  pub enough : total counts ≤ capacity 5 (length out) → (r ≡ record { mesh = mesh_answer (accepted counts); faces = faces }) × (last ≡ overwritten (take (5 * total counts) list) out)
  -- with less it is refused by 9 with its capacity.
  pub short : capacity 5 (length out) < total counts → (r ≡ read_answer (refused 9 (capacity 5 (length out)))) × (last ≡ out)

-- Of a call of the writer on the faces, the counts and the output that a call of the reader left, by the bytes that were read (`read_then_write`):
pub record WritesBack (b counts out : List ℕ) (w : WriteAnswer) (last : List ℕ) : Type 0 where
  -- with at most 1,073,741,823 quads and room for the bytes it writes these,
  pub enough : total counts ≤ most_quads → length b ≤ length out → (w ≡ accepted_answer (length b)) × (last ≡ overwritten b out)
  -- with less room it is refused by 15,
  pub short : total counts ≤ most_quads → length out < length b → (w ≡ refused_answer 15 0) × (last ≡ out)
  -- and with more quads by 13, which no reader gives.
  pub many : most_quads < total counts → (w ≡ refused_answer 13 0) × (last ≡ out)
