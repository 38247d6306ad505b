-- The bytes of a mesh: document 02, second request. "House style: sections in a fixed order, each after its count, counts as 32-bit numbers, low byte first."
use Rattle.std.specs.Prelude.{List, ◌++◌, map, ℕ, length}
use Rattle.geometry.specs.declared.face.OrientedBlockFace.{OrientedBlockFace}
use Rattle.saved.specs.Bytes.{written32, written_all}
use Rattle.saved.specs.Form.{Form, Mesh, head_count, face_byte}

-- A section: its count, and then its records.
abbrev pub section_bytes : ℕ → List ℕ → List ℕ
section_bytes count records = written32 count ++ records

-- The records of section 0: it "holds six face bytes", and after them the form's mark.
unfoldable pub head_records : Form → List OrientedBlockFace → List ℕ
head_records form faces = map face_byte faces ++ form.mark

-- A quad's bytes: its "32-bit numbers", one after another.
abbrev pub quad_bytes : List ℕ → List ℕ
quad_bytes = written_all written32

-- "Sections 1 to 6 hold the quads of each group": one such section. Its count counts quads.
unfoldable pub group_bytes : List (List ℕ) → List ℕ
group_bytes quads = section_bytes (length quads) (written_all quad_bytes quads)

-- The file.
unfoldable pub bytes : Form → Mesh → List ℕ
bytes form m = section_bytes (head_count form) (head_records form m.faces) ++ written_all group_bytes m.groups
