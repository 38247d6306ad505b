-- "Where both are accepted, each undoes the other": a mesh comes back from its bytes, and bytes from their mesh, in any form. So a mesh has one byte string, and a byte string one mesh.
use mathlib.Core.Bool.{true, false, not, ◌||◌}
use mathlib.Core.List.{List, [], ◌∷◌, ◌++◌, map}
use mathlib.Core.Path.{◌≡◌, refl, sym, ◌∙◌, ap}
use Prim.Native.Nat.{ℕ, ◌+◌, ◌*◌}
use native.Mathlib.Nat.{mul-one}
use native.Mathlib.Omega.{arith}
use lib.Dec.{eqb}
use lib.ListN.{length, take, drop, length-append, length-map, take-append-drop}
use lib.Seq.{take_at, drop_at, length-take-le}
use borrow.Author.Tests.{eq-eqb, eqb-true, not-false}
use Rattle.geometry.specs.declared.face.OrientedBlockFace.{OrientedBlockFace}
use Rattle.geometry.specs.Checks.{proper_sign}
use Rattle.geometry.specs.Refusal.{accepted, Check, at_place, checked, answer}
use Rattle.geometry.proofs.Refusals.{passes, first_passes, rest_accepts, accepts_value, accepts_checked, whole_passes}
use Rattle.geometry.proofs.Tests.{both_true}
use Rattle.geometry.specs.Lists.{Each}
use Rattle.geometry.proofs.Orders.{both_pass, part_passes}
use Rattle.saved.proofs.Checking.{quads_within, within_quads}
use Rattle.saved.specs.Bytes.{Bytes, written_all}
use Rattle.saved.specs.Form.{Form, Mesh, quad_size, head_count, face_byte, face_of}
use Rattle.saved.specs.Layout.{head_records, group_bytes, bytes}
use Rattle.saved.specs.Read.{count_in, records_in, after_section, ends_early, bad_file, same_numbers, wrong_head, section_checks, file_checks, face_bytes_in, mesh_in, bad_face_byte, bad_face_bytes_from, bad_face_bytes, mesh_quads, bad_mesh, read_checks, parse}
use Rattle.saved.specs.Statements.{Fits, Ok}
use Rattle.saved.proofs.FaceBytes.{face_back, byte_back, sign_proper}
use Rattle.saved.proofs.Groups.{groups_pass, groups_back, groups_written, groups_countable, groups_length}
use Rattle.saved.proofs.Section
use Rattle.saved.proofs.Section.{both_false}

-- ---- tests on lists

-- A list is the same as itself,
same_list : (l : List ℕ) → same_numbers l l ≡ true
unfolding same_numbers
same_list [] = refl
same_list (a ∷ l) = rw (eq-eqb a a refl) (same_list l)

-- and as no other.
same_only : (l m : List ℕ) → same_numbers l m ≡ true → l ≡ m
unfolding same_numbers
same_only [] [] h = refl
same_only [] (b ∷ m) h = cc
same_only (a ∷ l) [] h = cc
same_only (a ∷ l) (b ∷ m) h =
    let (first, others) = both_true (eqb a b) (same_numbers l m) h in
    rw (eqb-true a b first, same_only l m others)

-- ---- faces

abbrev Proper : OrientedBlockFace → Type 0
Proper f = proper_sign f.n_sign ≡ true

-- The bytes of proper faces are in the code,
codes_pass : (k : ℕ) (fs : List OrientedBlockFace) → Each Proper fs → checked (bad_face_bytes_from k (map face_byte fs)) ≡ accepted tt
unfolding bad_face_bytes_from Each answer
codes_pass k [] h = refl
codes_pass k (f ∷ fs) h = passes (at_place k (bad_face_byte (face_byte f))) (bad_face_bytes_from (k + 1) (map face_byte fs)) tt (face_back f h.0).0 ∙ codes_pass (k + 1) fs h.1

-- and lead back to them.
faces_back : (fs : List OrientedBlockFace) → Each Proper fs → map face_of (map face_byte fs) ≡ fs
unfolding Each
faces_back [] h = refl
faces_back (f ∷ fs) h = rw ((face_back f h.0).1, faces_back fs h.1)

-- Bytes in the code are those of their faces,
face_bytes_back : (k : ℕ) (l : List ℕ) → checked (bad_face_bytes_from k l) ≡ accepted tt → map face_byte (map face_of l) ≡ l
unfolding bad_face_bytes_from
face_bytes_back k [] h = refl
face_bytes_back k (b ∷ l) h =
    let c : Check = at_place k (bad_face_byte b) in
    rw (byte_back b (first_passes c (bad_face_bytes_from (k + 1) l) tt h), face_bytes_back (k + 1) l (rest_accepts c (bad_face_bytes_from (k + 1) l) tt h))

-- which are proper.
pub faces_proper : (l : List ℕ) → Each Proper (map face_of l)
unfolding Each face_of
faces_proper [] = tt
faces_proper (b ∷ l) = (sign_proper b, faces_proper l)

module _ (form : Form) where
  -- ---- from a mesh to bytes and back

  module _ (head_fits : Fits (head_count form)) (m : Mesh) (ok : Ok form m) where
    head_length : length (head_records form m.faces) ≡ head_count form * 1
    unfolding head_records head_count
    head_length = rw mul-one (length-append (map face_byte m.faces) form.mark ∙ omega (arith, length-map m.faces face_byte, ok.six))

    faces_long : length (map face_byte m.faces) ≡ 6
    faces_long = length-map m.faces face_byte ∙ ok.six

    head_back : records_in 1 (bytes form m) ≡ head_records form m.faces
    unfolding bytes
    head_back = Section.records_back 1 (head_count form) (head_records form m.faces) (written_all group_bytes m.groups) head_fits head_length

    after_head : after_section 1 (bytes form m) ≡ written_all group_bytes m.groups
    unfolding bytes
    after_head = Section.after_back 1 (head_count form) (head_records form m.faces) (written_all group_bytes m.groups) head_fits head_length

    head_count_lem : count_in (bytes form m) ≡ head_count form
    unfolding bytes
    head_count_lem = Section.count_back 1 (head_count form) (head_records form m.faces) (written_all group_bytes m.groups) head_fits head_length

    head_whole : ends_early 1 (bytes form m) ≡ false
    unfolding bytes
    head_whole = Section.whole_back 1 (head_count form) (head_records form m.faces) (written_all group_bytes m.groups) head_fits head_length

    face_bytes : face_bytes_in (bytes form m) ≡ map face_byte m.faces
    unfolding face_bytes_in head_records
    face_bytes = rw head_back (take_at (map face_byte m.faces) form.mark 6 faces_long)

    head_right : wrong_head form (bytes form m) ≡ false
    unfolding wrong_head head_records
    head_right =
        rw (head_count_lem, head_back, eq-eqb (head_count form) (head_count form) refl, drop_at (map face_byte m.faces) form.mark 6 faces_long, same_list form.mark)

    file_passes : checked (file_checks form (bytes form m)) ≡ accepted tt
    unfolding file_checks
    file_passes =
        passes (bad_file 0 (ends_early 1 (bytes form m) || wrong_head form (bytes form m))) _ tt (rw (head_whole, head_right))
        ∙ rw after_head (rw ok.groups at (groups_pass form.numbers 1 m.groups ok.countable))

    mesh_back : mesh_in form (bytes form m) ≡ m
    unfolding mesh_in
    mesh_back = rw (face_bytes, after_head, faces_back m.faces ok.proper, rw ok.groups at (groups_back form.numbers m.groups ok.countable))

    -- What is written is read.
    pub write_read : parse form (bytes form m) ≡ accepted m
    unfolding parse read_checks
    write_read =
        let codes : checked (bad_face_bytes (face_bytes_in (bytes form m))) ≡ accepted tt = rw face_bytes (codes_pass 0 m.faces ok.proper) in
        let quads : checked (bad_mesh (mesh_in form (bytes form m))) ≡ accepted tt = rw mesh_back (within_quads 0 (mesh_quads m) ok.within) in
        sym (part_passes _ _ _ (sym (part_passes _ _ tt file_passes (sym codes))) (whole_passes _ _ quads (sym mesh_back)))

  -- ---- from bytes to a mesh and back

  -- What a file tells that is not refused by 16: section 0 is whole, its count and its mark are the form's, and the other sections are not refused.
  module _ (b : List ℕ) (file : checked (file_checks form b) ≡ accepted tt) where
    pub head_and_rest : ((ends_early 1 b || wrong_head form b) ≡ false) × (checked (section_checks (quad_size form.numbers) 1 6 (after_section 1 b)) ≡ accepted tt)
    unfolding file_checks
    head_and_rest = (first_passes _ _ tt file, rest_accepts (bad_file 0 (ends_early 1 b || wrong_head form b)) _ tt file)

    pub section_0_whole : ends_early 1 b ≡ false
    section_0_whole = (both_false (ends_early 1 b) (wrong_head form b) head_and_rest.0).0

    pub head_told : (count_in b ≡ head_count form) × (drop 6 (records_in 1 b) ≡ form.mark)
    unfolding wrong_head
    head_told =
        let right = (both_false (ends_early 1 b) (wrong_head form b) head_and_rest.0).1 in
        let (count, mark) = both_false (not (eqb (count_in b) (head_count form))) (not (same_numbers (drop 6 (records_in 1 b)) form.mark)) right in
        (eqb-true _ _ (not-false _ count), same_only _ _ (not-false _ mark))

    six_face_bytes : length (face_bytes_in b) ≡ 6
    unfolding face_bytes_in head_count
    six_face_bytes = length-take-le 6 (records_in 1 b) (omega (arith, Section.records_length 1 b section_0_whole, head_told.0))

  module _ (b : List ℕ) (are-bytes : Bytes b) (file : checked (file_checks form b) ≡ accepted tt) (codes : checked (bad_face_bytes (face_bytes_in b)) ≡ accepted tt) where
    head_written : head_records form (map face_of (face_bytes_in b)) ≡ records_in 1 b
    unfolding head_records face_bytes_in
    head_written =
        rw (face_bytes_back 0 (take 6 (records_in 1 b)) codes, ← (head_told b file).1)
        (take-append-drop 6 (records_in 1 b))

    bytes_of_mesh : bytes form (mesh_in form b) ≡ b
    unfolding bytes mesh_in
    bytes_of_mesh =
        rw (head_written, groups_written form.numbers 6 1 (after_section 1 b) (Section.after_bytes 1 b are-bytes) (head_and_rest b file).1, ← (head_told b file).0)
        (Section.section_back 1 b (section_0_whole b file) are-bytes)

    mesh_ok : checked (bad_mesh (mesh_in form b)) ≡ accepted tt → Ok form (mesh_in form b)
    unfolding mesh_in
    mesh_ok within =
        record {
          six = length-map (face_bytes_in b) face_of ∙ six_face_bytes b file;
          proper = faces_proper (face_bytes_in b);
          groups = groups_length form.numbers 6 (after_section 1 b);
          countable = groups_countable form.numbers 6 1 (after_section 1 b) (Section.after_bytes 1 b are-bytes) (head_and_rest b file).1;
          within = quads_within 0 (mesh_quads (mesh_in form b)) within;
        }

  -- An accepted file passes 16, 17 and 12, in turn.
  pub accepted_passes : (b : List ℕ) {m : Mesh} → parse form b ≡ accepted m
      → (checked (file_checks form b) ≡ accepted tt) × (checked (bad_face_bytes (face_bytes_in b)) ≡ accepted tt) × (checked (bad_mesh (mesh_in form b)) ≡ accepted tt) × (mesh_in form b ≡ m)
  unfolding parse read_checks
  accepted_passes b e =
      let (first, quads) = both_pass (file_checks form b ++ bad_face_bytes (face_bytes_in b)) (bad_mesh (mesh_in form b)) (accepts_checked _ _ e) in
      let (file, codes) = both_pass (file_checks form b) _ first in
      (file, codes, quads, accepts_value _ _ e)

  -- What is read is written, and can be.
  pub read_write : (b : List ℕ) (m : Mesh) → Bytes b → parse form b ≡ accepted m → (bytes form m ≡ b) × Ok form m
  read_write b m h e =
      let (file, codes, quads, is) = accepted_passes b e in
      (rw is at (bytes_of_mesh b h file codes), rw is at (mesh_ok b h file codes quads))

  -- No two byte strings hold one mesh.
  pub one_byte_string : (b c : List ℕ) (m : Mesh) → Bytes b → Bytes c → parse form b ≡ accepted m → parse form c ≡ accepted m → b ≡ c
  one_byte_string b c m hb hc eb ec = sym (read_write b m hb eb).0 ∙ (read_write c m hc ec).0

  -- No two meshes have one byte string.
  pub one_mesh : Fits (head_count form) → (m n : Mesh) → Ok form m → Ok form n → bytes form m ≡ bytes form n → m ≡ n
  one_mesh fits m n ok-m ok-n e = let both : accepted m ≡ accepted n = sym (write_read fits m ok-m) ∙ ap (parse form) e ∙ write_read fits n ok-n in cc
