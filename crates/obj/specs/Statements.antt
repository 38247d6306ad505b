-- What is shown of a text and of a call beside the bytes. The proofs stand in proofs/Quads.antt, Lengths.antt, ReadBack.antt and Outcome.antt.
use Rattle.std.specs.Prelude.{List, ◌++◌, map, ◌≡◌, ℕ, ◌+◌, ◌*◌, ◌≤◌, ◌<◌, length, take, drop}
use Rattle.geometry.specs.declared.face.OrientedBlockFace.{OrientedBlockFace}
use Rattle.geometry.specs.Refusal.{accepted}
use Rattle.geometry.specs.Corners.{corners, quad_corners}
use Rattle.geometry.specs.Vertices.{vertex, quad_indices}
use Rattle.geometry.specs.Lists.{Each}
use Rattle.listing.specs.Listing.{joined, overwritten}
use Rattle.greedy.specs.Greedy.{quad_numbers}
use Rattle.writing.specs.Handed.{OrientedQuad, numbered, handed, total}
use Rattle.writing.specs.Written.{WriteAnswer, refused_answer, accepted_answer}
use Rattle.writing.specs.Statements.{ListedPasses}
use Rattle.obj.specs.Text.{Line, four_corners, coordinates, indices_at, first_triangle, second_triangle, triangle_lines}
use Rattle.obj.specs.Obj.{obj_text}
use Rattle.obj.specs.Reader.{Meaning, meaning}

-- ---- a quad's lines

-- What the lines of quad k have is what geometry's calls give for it (`quad_given`).
pub record QuadGiven (k : ℕ) (q : OrientedQuad) : Type 0 where
  pub corners_given : quad_corners q.face q.quad ≡ accepted (corners q.face q.quad)
  pub indices_given : quad_indices q.face (vertex (4 * k)) ≡ accepted (indices_at k q)

-- A vertex number, counted from 1, is one of quad k's own four.
abbrev pub RefersTo : ℕ → ℕ → Type 0
RefersTo k i = (4 * k + 1 ≤ i) × (i ≤ 4 * k + 4)

-- All numbers of quad k's `f` lines are (`faces_refer`).
abbrev pub FacesRefer : ℕ → OrientedQuad → Type 0
FacesRefer k q = Each (λ (l : Line). Each (RefersTo k) l.numbers) (triangle_lines k q)

-- ---- how long a text is

-- The most bytes of a text of so many quads: the first line's 7, and for each quad four lines of at most 17 bytes and two of at most 35 (`length_at_most`, `handed_at_most`).
abbrev pub most_bytes : ℕ → ℕ
most_bytes quads = 7 + 138 * quads

-- ---- what a text says

-- The coordinates of a quad's corners: twelve numbers.
abbrev pub corner_numbers : OrientedQuad → List ℕ
corner_numbers q = joined (map coordinates (four_corners q))

-- The vertex numbers of quad k's triangles, "counted from 1": six numbers.
abbrev pub triangle_numbers : ℕ → OrientedQuad → List ℕ
triangle_numbers k q = first_triangle (indices_at k q) ++ second_triangle (indices_at k q)

-- Those of all quads in order: what reading a text back gives, whatever the quads are and however many (`reads_back`).
unfoldable pub said : List OrientedQuad → Meaning
said qs = record { corners = joined (map corner_numbers qs); triangles = numbered triangle_numbers 0 qs }

-- ---- what a call leaves

-- Of any call, by its answer and its output at exit (`write_holds`):
pub record WriteHolds (faces : List OrientedBlockFace) (counts list out : List ℕ) (r : WriteAnswer) (last : List ℕ) : Type 0 where
  -- where it answers 0 the text stands at the output's start, and its bytes are the answer;
  pub start : r.refusal ≡ 0 → take r.written last ≡ obj_text faces counts list
  pub bytes : r.refusal ≡ 0 → r.written ≡ length (obj_text faces counts list)
  -- it reads back as the mesh that was handed in;
  pub reads : r.refusal ≡ 0 → meaning (take r.written last) ≡ said (handed quad_numbers faces counts list)
  -- "what isn't written stays", always;
  pub stays : drop r.written last ≡ drop r.written out
  -- where it answers anything else nothing is written;
  pub untouched : 1 ≤ r.refusal → (r.written ≡ 0) × (last ≡ out)
  -- 15 is given where nothing else is refused and the output is shorter than the text, and only there;
  pub short : r.refusal ≡ 15 → ListedPasses faces counts list × (length out < length (obj_text faces counts list))
  pub given : ListedPasses faces counts list → length out < length (obj_text faces counts list) → r ≡ refused_answer 15 0
  -- and so never with room for the longest text that so many quads can have, whatever they are.
  pub room : length faces ≡ length counts → most_bytes (total counts) ≤ length out → r.refusal ≡ 15 → ⊥

-- Of a call on a mesh that passes 24, 6, 12 and 13 (`passed_writes`), as every mesh does that a greedy call which answers 0 leaves (`greedy_writes`): it writes the text, or it is refused by 15 alone.
pub record Writes (faces : List OrientedBlockFace) (counts list out : List ℕ) (r : WriteAnswer) (last : List ℕ) : Type 0 where
  pub enough : length (obj_text faces counts list) ≤ length out → (r ≡ accepted_answer (length (obj_text faces counts list))) × (last ≡ overwritten (obj_text faces counts list) out)
  pub short : length out < length (obj_text faces counts list) → (r ≡ refused_answer 15 0) × (last ≡ out)
