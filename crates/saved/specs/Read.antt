-- What bytes are read as: document 02, second request. "The reader refuses with 16 exactly if the bytes end early, section 0's count isn't 6, or bytes follow section 6 (place: section, 7 for trailing bytes); then 17 with the number
-- of the first face byte outside the code; then 12 for the first bad quad, its number as place; then 9." 9 looks at the output and stands in Saved.antt.
-- Every word below is said of any bytes: each takes what is there, and 16 alone asks whether that is enough. So a refusal is a check among others, and its order is a list.
use Rattle.std.specs.Prelude.{Bool, true, false, not, ◌&&◌, ◌||◌, List, [], ◌∷◌, ◌++◌, map, ℕ, zero, suc, ◌+◌, ◌*◌, eqb, ltb, length, take, drop}
use Rattle.geometry.specs.Axes.{no_permutation}
use Rattle.geometry.specs.Refusal.{Answer, Check, at_place, answer}
use Rattle.greedy.specs.Call.{quad_from}
use Rattle.writing.specs.Handed.{OrientedQuad, oriented, bad_quads}
use Rattle.saved.specs.Bytes.{number32, read_all}
use Rattle.saved.specs.Form.{Form, Mesh, quad_size, head_count, without_sign, face_of}

-- ---- a section. Each of these is of bytes that begin with one, whose records have so many bytes each.

-- The section's count.
abbrev pub count_in : List ℕ → ℕ
count_in b = number32 b

-- How many bytes its records have. No product wraps: these are numbers of any size.
abbrev pub extent_in : ℕ → List ℕ → ℕ
extent_in size b = count_in b * size

-- Its records.
unfoldable pub records_in : ℕ → List ℕ → List ℕ
records_in size b = take (extent_in size b) (drop 4 b)

-- The bytes after it.
unfoldable pub after_section : ℕ → List ℕ → List ℕ
after_section size b = drop (extent_in size b) (drop 4 b)

-- "the bytes end early": in its count or in its records.
unfoldable pub ends_early : ℕ → List ℕ → Bool
ends_early size b = ltb (length b) 4 || ltb (length (drop 4 b)) (extent_in size b)

-- ---- refusal 16

-- Refusal 16, of a section, which is the place.
abbrev pub bad_file : ℕ → Bool → Check
bad_file section applies = record { number = 16; applies = applies; place = section }

-- Whether two lists of numbers are the same.
unfoldable pub same_numbers : List ℕ → List ℕ → Bool
same_numbers [] [] = true
same_numbers [] (b ∷ m) = false
same_numbers (a ∷ l) [] = false
same_numbers (a ∷ l) (b ∷ m) = eqb a b && same_numbers l m

-- "section 0's count isn't 6", with the form's mark counted, or what stands after the face bytes is another mark.
unfoldable pub wrong_head : Form → List ℕ → Bool
wrong_head form b = not (eqb (count_in b) (head_count form)) || not (same_numbers (drop 6 (records_in 1 b)) form.mark)

-- "or bytes follow"
abbrev pub goes_on : List ℕ → Bool
goes_on [] = false
goes_on (b ∷ l) = true

-- Of n sections, the first of them the k-th, and then of the file's end.
unfoldable pub section_checks : ℕ → ℕ → ℕ → List ℕ → List Check
section_checks size k zero b = bad_file k (goes_on b) ∷ []
section_checks size k (suc n) b = bad_file k (ends_early size b) ∷ section_checks size (k + 1) n (after_section size b)

-- Of a file: section 0, whose records are bytes, and six sections of quads.
unfoldable pub file_checks : Form → List ℕ → List Check
file_checks form b = bad_file 0 (ends_early 1 b || wrong_head form b) ∷ section_checks (quad_size form.numbers) 1 6 (after_section 1 b)

-- ---- what stands in the sections

-- The six face bytes.
unfoldable pub face_bytes_in : List ℕ → List ℕ
face_bytes_in b = take 6 (records_in 1 b)

-- A quad of so many numbers, from its bytes.
abbrev pub quad_in : ℕ → List ℕ → List ℕ
quad_in numbers = read_all 4 number32 numbers

-- The quads of a section.
unfoldable pub quads_in : ℕ → List ℕ → List (List ℕ)
quads_in numbers b = read_all (quad_size numbers) (quad_in numbers) (count_in b) (records_in (quad_size numbers) b)

-- Those of n sections, one after another.
unfoldable pub groups_in : ℕ → ℕ → List ℕ → List (List (List ℕ))
groups_in numbers zero b = []
groups_in numbers (suc n) b = quads_in numbers b ∷ groups_in numbers n (after_section (quad_size numbers) b)

-- The mesh in a file.
unfoldable pub mesh_in : Form → List ℕ → Mesh
mesh_in form b = record { faces = map face_of (face_bytes_in b); groups = groups_in form.numbers 6 (after_section 1 b) }

-- ---- refusals 17 and 12

-- Refusal 17 of a face byte: without its sign's 8 it is no permutation's number. So 0 to 5 and 8 to 13 are the code.
abbrev pub bad_face_byte : ℕ → Check
bad_face_byte b = no_permutation (without_sign b)

-- Of some face bytes, the first of them the k-th.
unfoldable pub bad_face_bytes_from : ℕ → List ℕ → List Check
bad_face_bytes_from k [] = []
bad_face_bytes_from k (b ∷ l) = at_place k (bad_face_byte b) ∷ bad_face_bytes_from (k + 1) l

-- "17 with the number of the first face byte outside the code"
abbrev pub bad_face_bytes : List ℕ → List Check
bad_face_bytes l = bad_face_bytes_from 0 l

-- The quads of a mesh in file order, each with the face of its group.
unfoldable pub mesh_quads : Mesh → List OrientedQuad
mesh_quads m = oriented m.faces (map (map quad_from) m.groups)

-- "12 for the first bad quad, its number as place". The number runs over the whole file, and the limits go by the u and v of the file's own face.
abbrev pub bad_mesh : Mesh → List Check
bad_mesh m = bad_quads (mesh_quads m)

-- ---- the mesh of a file

-- 16, then 17, then 12.
unfoldable pub read_checks : Form → List ℕ → List Check
read_checks form b = file_checks form b ++ bad_face_bytes (face_bytes_in b) ++ bad_mesh (mesh_in form b)

-- The mesh of a file, or its refusal.
unfoldable pub parse : Form → List ℕ → Answer Mesh
parse form b = answer (read_checks form b) (mesh_in form b)
