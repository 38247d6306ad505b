-- What stands at a refusal's byte is what the reader refuses: 16 a section that is bad from its count on, or bytes after the last (`stands_16`), 17 a byte outside the code (`stands_17`), 12 a quad outside the limits (`stands_12`). It is the
-- first in the file that is so, each of those before it looked at by its own byte.
use mathlib.Core.Bool.{Bool, true, false, ◌||◌}
use mathlib.Core.List.{List, [], ◌∷◌, ◌++◌, map}
use mathlib.Core.Path.{◌≡◌, refl, sym, ◌∙◌, ap}
use Prim.Native.Nat.{ℕ, zero, suc, ◌+◌, ◌-◌, ◌*◌, ◌≤◌, ◌<◌}
use native.Mathlib.Nat.{zero-mul, mul-one}
use native.Mathlib.Omega.{arith}
use lib.Dec.{eqb, ltb, leb-suc-suc}
use lib.ListN.{length, get_or, take, drop, length-append, length-drop, length-map, drop_of_length-le, get_or-append}
use lib.Seq.{drop-length, drop-drop, length-take-le, get_or-take, get_or-drop, get_or-append-add}
use borrow.Author.Tests.{ltb-true, ltb-false, lt-ltb}
use Rattle.geometry.specs.Refusal.{Answer, accepted, refused, Check, at_place, answer, checked, and_then, follow}
use Rattle.geometry.proofs.Refusals.{split, refused_number, refused_place, not_both, applies, passes, passes_alone, in_turn, answer_refused}
use Rattle.geometry.specs.declared.face.OrientedBlockFace.{OrientedBlockFace}
use Rattle.geometry.specs.declared.quad.UnorientedQuad.{UnorientedQuad}
use Rattle.geometry.specs.Checks.{bad_quad}
use Rattle.listing.specs.Listing.{capacity, too_many}
use Rattle.greedy.specs.Call.{quad_from}
use Rattle.writing.specs.Handed.{OrientedQuad, on_face, oriented, numbered, bad_quad_at}
use Rattle.saved.specs.Bytes.{pieces}
use Rattle.saved.specs.Form.{Form, Mesh, quad_size, head_count, face_of}
use Rattle.saved.specs.Read.{count_in, extent_in, records_in, after_section, ends_early, bad_file, goes_on, wrong_head, section_checks, file_checks, face_bytes_in, quad_in, quads_in, groups_in, mesh_in, bad_face_byte, bad_face_bytes_from, bad_face_bytes, mesh_quads, bad_mesh, read_checks, parse}
use Rattle.saved.specs.Saved.{quad_count, fitting}
use Rattle.saved.specs.Where.{from_section_in, from_quad_in, from_section, from_quad, from_refusal, refusal_byte, First, standing, bad_section_in, bad_section}
use Rattle.saved.proofs.Items.{one_more, pieces_length}
use Rattle.saved.proofs.Pieces.{pieces_cut}
use Rattle.saved.proofs.Section
use Rattle.saved.proofs.Roundtrip.{section_0_whole, head_told}
use Rattle.saved.proofs.Reaching.{quad_in_lem, quad_past}

-- ---- the bytes from a refusal's byte on

-- A byte of a file, and the bytes from there on.
pub record From (b : List ℕ) (at : ℕ) (rest : List ℕ) : Type 0 where
  pub inside : at ≤ length b
  pub is : drop at b ≡ rest

-- A byte is as far in as fewer bytes are left from it on than there are,
from_byte : {b : List ℕ} {at : ℕ} {rest : List ℕ} → From b at rest → at ≡ length b - length rest
from_byte {b} {at} from = rw (← from.is, length-drop at b) (omega (arith, from.inside))

-- and from the end on there is nothing.
from_end : (b : List ℕ) {rest : List ℕ} → rest ≡ [] → From b (length b) rest
from_end b e = record { inside = omega arith; is = drop-length b ∙ sym e }

-- What is left of some bytes after a number of them.
record Left (b rest : List ℕ) : Type 0 where
  gone : ℕ
  is : drop gone b ≡ rest

module _ {b rest : List ℕ} (l : Left b rest) where
  left_on : (n : ℕ) → Left b (drop n rest)
  left_on n = record { gone = l.gone + n; is = sym (drop-drop n l.gone b) ∙ ap (λ (m : List ℕ). drop n m) l.is }

left_after : {b rest : List ℕ} → Left b rest → (size : ℕ) → Left b (after_section size rest)
unfolding after_section
left_after {rest = rest} l size = left_on (left_on l 4) (extent_in size rest)

left_section : {b rest : List ℕ} (size n k : ℕ) → Left b rest → Left b (from_section_in size n k rest)
unfolding from_section_in
left_section size zero k l = l
left_section size (suc n) zero l = l
left_section {b = b} {rest = rest} size (suc n) (suc k) l = left_section {b = b} {rest = after_section size rest} size n k (left_after l size)

left_quad : {b rest : List ℕ} (size n q : ℕ) → Left b rest → Left b (from_quad_in size n q rest)
unfolding from_quad_in
left_quad size zero q l = l
left_quad {b = b} {rest = rest} size (suc n) q l =
    split (ltb q (count_in rest))
    (λ t. rw (quad_in_lem size n q rest (ltb-true q (count_in rest) t)) (left_on (left_on l 4) (q * size)))
    (λ f. rw (quad_past size n q rest (ltb-false q (count_in rest) f)) (left_quad {b = b} {rest = after_section size rest} size n (q - count_in rest) (left_after l size)))

left_all : (b : List ℕ) → Left b b
left_all b = record { gone = 0; is = refl }

left_from_section : (numbers k : ℕ) (b : List ℕ) → Left b (from_section numbers k b)
unfolding from_section
left_from_section numbers zero b = left_all b
left_from_section numbers (suc k) b = left_section (quad_size numbers) 6 k (left_after (left_all b) 1)

left_refusal : (numbers n place : ℕ) (b : List ℕ) → Left b (from_refusal numbers n place b)
unfolding from_refusal from_quad
left_refusal numbers n place b =
    split (eqb n 16)
    (λ t. rw (from_refusal, t) (left_from_section numbers place b))
    (λ f. split (eqb n 17)
    (λ t. rw (from_refusal, f, t) (left_on (left_all b) (4 + place)))
    (λ g. split (eqb n 12)
    (λ t. rw (from_refusal, f, g, t) (left_quad (quad_size numbers) 6 place (left_after (left_all b) 1)))
    (λ h. rw (from_refusal, f, g, h) (left_all b))))

settled : {b : List ℕ} {at : ℕ} {rest : List ℕ} → From b at rest → From b (length b - length rest) rest
settled from = rw (from_byte from) at from

left_from_lem : {b rest : List ℕ} → Left b rest → From b (length b - length rest) rest
left_from_lem {b} {rest} l =
    split (ltb (length b) l.gone)
    (λ t. settled (from_end b (sym l.is ∙ drop_of_length-le b {i = l.gone} (omega (arith, ltb-true (length b) l.gone t)))))
    (λ f. settled {at = l.gone} (record { inside = ltb-false (length b) l.gone f; is = l.is }))

-- A refusal's byte is one of the file or its end, and what stands from there on is what its place says.
pub refusal_from : (form : Form) (n place : ℕ) (b : List ℕ) → From b (refusal_byte form n place b) (from_refusal form.numbers n place b)
unfolding refusal_byte
refusal_from form n place b = left_from_lem (left_refusal form.numbers n place b)

-- ---- the first of which something holds

first_start : (bad : ℕ → Bool) → bad 0 ≡ true → First bad 0
first_start bad h = record { here = h; before = λ k l. absurd (omega arith) }

first_next : (bad : ℕ → Bool) {j : ℕ} → bad 0 ≡ false → First (λ (i : ℕ). bad (suc i)) j → First bad (suc j)
first_next bad {j} none first = record { here = first.here; before = earlier }
  where
    earlier : (k : ℕ) → k < suc j → bad k ≡ false
    earlier zero l = none
    earlier (suc k) l = first.before k (omega arith)

first_as : (bad other : ℕ → Bool) {j : ℕ} → ((i : ℕ) → i ≤ j → bad i ≡ other i) → First bad j → First other j
first_as bad other same first =
    record {
      here = sym (same _ (omega arith)) ∙ first.here;
      before = λ k l. sym (same k (omega arith)) ∙ first.before k l;
    }

-- ---- 16

-- The first of n sections that 16 refuses, of which the first is the k-th.
sections_first : (size n k : ℕ) (b : List ℕ) {m p : ℕ} → checked (section_checks size k n b) ≡ refused m p
    → (j : ℕ) × (p ≡ k + j) × (m ≡ 16) × (j ≤ n) × First (λ (i : ℕ). bad_section_in size n i (from_section_in size n i b)) j
unfolding section_checks bad_section_in from_section_in
sections_first size zero k b e =
    split (goes_on b)
    (λ t. let is = sym (applies (bad_file k (goes_on b)) [] tt t) ∙ e in (0, omega (arith, refused_place is), sym (refused_number is), omega arith, first_start _ t))
    (λ f. absurd (not_both (sym (passes_alone (bad_file k (goes_on b)) f) ∙ e)))
sections_first size (suc n) k b e =
    let c : Check = bad_file k (ends_early size b) in
    let others : List Check = section_checks size (k + 1) n (after_section size b) in
    let bad : ℕ → Bool = λ (i : ℕ). bad_section_in size (suc n) i (from_section_in size (suc n) i b) in
    let first-is : bad_section_in size (suc n) 0 b ≡ ends_early size b = rw (bad_section_in, lt-ltb 0 (suc n) (omega arith)) in
    split (ends_early size b)
    (λ t. let is = sym (applies c others tt t) ∙ e in (0, omega (arith, refused_place is), sym (refused_number is), omega arith, first_start bad (first-is ∙ t)))
    (λ f. let (j, is, number, most, first) = sections_first size n (k + 1) (after_section size b) (sym (passes c others tt f) ∙ e) in
    (suc j, omega arith, number, omega arith, first_next bad (first-is ∙ f) (first_as _ _ (λ i l. rw (bad_section_in, leb-suc-suc (suc i) n)) first)))

-- Of a file.
module _ (form : Form) (b : List ℕ) where
  file_first : {m p : ℕ} → checked (file_checks form b) ≡ refused m p
      → (m ≡ 16) × (p ≤ 7) × First (λ (k : ℕ). bad_section form k (from_section form.numbers k b)) p
  unfolding file_checks bad_section from_section
  file_first {p = p} e =
      let size : ℕ = quad_size form.numbers in
      let c : Check = bad_file 0 (ends_early 1 b || wrong_head form b) in
      let others : List Check = section_checks size 1 6 (after_section 1 b) in
      let bad : ℕ → Bool = λ (k : ℕ). bad_section form k (from_section form.numbers k b) in
      split (ends_early 1 b || wrong_head form b)
      (λ t. let is = sym (applies c others tt t) ∙ e in
      (sym (refused_number is), omega (arith, refused_place is), rw (← refused_place is) (first_start bad t)))
      (λ f. let (j, is, number, most, first) = sections_first size 6 1 (after_section 1 b) (sym (passes c others tt f) ∙ e) in
      let place : p ≡ suc j = omega arith in
      (number, omega arith, rw place (first_next bad f first)))

-- ---- things in a list, each with its place

module _ {A : Type 0} (check : A → Check) where
  -- Their checks, the first of them at place k.
  abbrev placed : ℕ → List A → List Check
  placed k [] = []
  placed k (a ∷ l) = at_place k (check a) ∷ placed (k + 1) l

  -- A refusal is the first one's that is refused.
  placed_first : (d : A) (k : ℕ) (l : List A) {m p : ℕ} → checked (placed k l) ≡ refused m p
      → (j : ℕ) × (p ≡ k + j) × (m ≡ (check (get_or l j d)).number) × (j < length l) × First (λ (i : ℕ). (check (get_or l i d)).applies) j
  unfolding answer
  placed_first d k [] e = absurd (not_both e)
  placed_first d k (a ∷ l) e =
      let bad : ℕ → Bool = λ (i : ℕ). (check (get_or (a ∷ l) i d)).applies in
      split (check a).applies
      (λ t. let is = sym (applies (at_place k (check a)) (placed (k + 1) l) tt t) ∙ e in
      (0, omega (arith, refused_place is), sym (refused_number is), omega arith, first_start bad t))
      (λ f. let (j, is, number, inside, first) = placed_first d (k + 1) l (sym (passes (at_place k (check a)) (placed (k + 1) l) tt f) ∙ e) in
      (suc j, omega arith, number, omega arith, first_next bad f first))

faces_placed : (k : ℕ) (l : List ℕ) → bad_face_bytes_from k l ≡ placed bad_face_byte k l
unfolding bad_face_bytes_from
faces_placed k [] = refl
faces_placed k (a ∷ l) = rw (faces_placed (k + 1) l)

-- The check of a quad on its group's face.
abbrev quad_check : OrientedQuad → Check
quad_check q = bad_quad q.face q.quad

quads_placed : (k : ℕ) (l : List OrientedQuad) → numbered bad_quad_at k l ≡ placed quad_check k l
unfolding numbered
quads_placed k [] = refl
quads_placed k (q ∷ l) = rw (quads_placed (k + 1) l)

-- ---- which part of the reader's order refuses

follow_refused : {P : Type 0} (x y : Answer (Unit {0})) {n p : ℕ} → follow x y ≡ refused n p → (x ≡ refused n p → P) → (x ≡ accepted tt → y ≡ refused n p → P) → P
follow_refused (accepted u) y e first second = second refl e
follow_refused (refused m q) y e first second = first e

part_refused : {P : Type 0} (cs ds : List Check) {n p : ℕ} → checked (cs ++ ds) ≡ refused n p
    → (checked cs ≡ refused n p → P) → (checked cs ≡ accepted tt → checked ds ≡ refused n p → P) → P
part_refused cs ds e first second = follow_refused (checked cs) (checked ds) (sym (in_turn cs ds tt) ∙ e) first second

-- A check by itself refuses with its own number.
alone : (c : Check) {n p : ℕ} → checked (c ∷ []) ≡ refused n p → n ≡ c.number
alone c e = split c.applies (λ t. refused_number (sym e ∙ applies c [] tt t)) (λ f. absurd (not_both (sym (passes_alone c f) ∙ e)))

-- What stands past the end of a list of quads.
abbrev none : OrientedQuad
none = record { face = face_of 0; quad = quad_from [] }

module _ (form : Form) (b : List ℕ) where
  -- One of the three parts does.
  in_parts : {P : Type 0} {n p : ℕ} → parse form b ≡ refused n p
      → (checked (file_checks form b) ≡ refused n p → P)
      → (checked (file_checks form b) ≡ accepted tt → checked (bad_face_bytes (face_bytes_in b)) ≡ refused n p → P)
      → (checked (bad_mesh (mesh_in form b)) ≡ refused n p → P)
      → P
  unfolding parse read_checks
  in_parts e file faces quads =
      part_refused (file_checks form b ++ bad_face_bytes (face_bytes_in b)) (bad_mesh (mesh_in form b)) (answer_refused (read_checks form b) (mesh_in form b) e)
      (λ first. part_refused (file_checks form b) (bad_face_bytes (face_bytes_in b)) first file faces)
      (λ passed last. quads last)

  -- A face byte that is refused is by 17,
  faces_first : {m p : ℕ} → checked (bad_face_bytes (face_bytes_in b)) ≡ refused m p
      → (m ≡ 17) × (p < length (face_bytes_in b)) × First (λ (k : ℕ). (bad_face_byte (get_or (face_bytes_in b) k 0)).applies) p
  faces_first {p = p} e =
      let (j, is, number, inside, first) = placed_first bad_face_byte 0 0 (face_bytes_in b) (sym (ap checked (faces_placed 0 (face_bytes_in b))) ∙ e) in
      let place : p ≡ j = omega arith in
      (number, omega arith, rw place first)

  -- and a quad by 12.
  quads_first : (d : OrientedQuad) {m p : ℕ} → checked (bad_mesh (mesh_in form b)) ≡ refused m p
      → (m ≡ 12) × (p < length (mesh_quads (mesh_in form b))) × First (λ (q : ℕ). (quad_check (get_or (mesh_quads (mesh_in form b)) q d)).applies) p
  quads_first d {p = p} e =
      let qs : List OrientedQuad = mesh_quads (mesh_in form b) in
      let (j, is, number, inside, first) = placed_first quad_check d 0 qs (sym (ap checked (quads_placed 0 qs)) ∙ e) in
      let place : p ≡ j = omega arith in
      (number, omega arith, rw place first)

  -- The mesh of a file is refused by no other.
  pub three_numbers : {n p : ℕ} → parse form b ≡ refused n p → (n ≡ 16 → ⊥) → (n ≡ 17 → ⊥) → n ≡ 12
  three_numbers e no-16 no-17 =
      in_parts e
      (λ file. absurd (no-16 (file_first form b file).0))
      (λ file faces. absurd (no-17 (faces_first faces).0))
      (λ quads. (quads_first none quads).0)

  -- And a call by no other but 9.
  pub call_refused : (long : ℕ) {n p : ℕ} → fitting form b long ≡ refused n p → (n ≡ 9 → ⊥) → parse form b ≡ refused n p
  unfolding fitting
  call_refused long {n} {p} e other = by (parse form b) e
    where
      by : (x : Answer Mesh) → and_then x (λ (m : Mesh). answer (too_many (quad_count m) (capacity form.numbers long)) m) ≡ refused n p → x ≡ refused n p
      by (accepted m) h = absurd (other (alone _ (answer_refused _ m h)))
      by (refused k q) h = h

  -- 16 stands where its section's count begins, or at the first byte past section 6: each section before is whole, and this one is not, or bytes follow.
  pub stands_16 : {p : ℕ} → parse form b ≡ refused 16 p → (p ≤ 7) × First (λ (k : ℕ). bad_section form k (standing form 16 k b)) p
  unfolding from_refusal
  stands_16 e =
      in_parts e
      (λ file. let (number, most, first) = file_first form b file in
      (most, first_as _ _ (λ k l. ap (bad_section form k) (sym (refusal_from form 16 k b).is)) first))
      (λ file faces. let (number, most, first) = faces_first faces in absurd (omega arith))
      (λ quads. let (number, most, first) = quads_first none quads in absurd (omega arith))

-- ---- 17

module _ (form : Form) (b : List ℕ) (file : checked (file_checks form b) ≡ accepted tt) where
  six_there : 6 ≤ count_in b
  unfolding head_count
  six_there = omega (arith, (head_told form b file).0)

  records_long : length (records_in 1 b) ≡ count_in b
  records_long = rw mul-one at (Section.records_length 1 b (section_0_whole form b file))

  six_bytes : length (face_bytes_in b) ≡ 6
  unfolding face_bytes_in
  six_bytes = length-take-le 6 (records_in 1 b) (omega (arith, six_there, records_long))

  long_enough : 10 ≤ length b
  long_enough =
      let there = section_0_whole form b file in
      omega (arith, six_there, Section.count_there 1 b there, rw mul-one at (Section.records_there 1 b there), length-drop 4 b)

  -- A face byte is the byte where a refusal of it stands.
  face_byte_is : (k : ℕ) → k < 6 → get_or (face_bytes_in b) k 0 ≡ get_or b (refusal_byte form 17 k b) 0
  unfolding face_bytes_in records_in refusal_byte from_refusal
  face_byte_is k h =
      let from : From b (4 + k) (drop (4 + k) b) = record { inside = omega (arith, long_enough); is = refl } in
      get_or-take 6 (records_in 1 b) k 0 h ∙ get_or-take (extent_in 1 b) (drop 4 b) k 0 (rw mul-one (omega (arith, six_there))) ∙ get_or-drop 4 b k 0
      ∙ ap (λ (at : ℕ). get_or b at 0) (from_byte from)

-- 17 stands at the byte that is outside the code: those before it are in it.
pub stands_17 : (form : Form) (b : List ℕ) {p : ℕ} → parse form b ≡ refused 17 p → (p < 6) × First (λ (k : ℕ). (bad_face_byte (get_or b (refusal_byte form 17 k b) 0)).applies) p
stands_17 form b e =
    in_parts form b e
    (λ file. let (number, most, first) = file_first form b file in absurd (omega arith))
    (λ file faces. let (number, inside, first) = faces_first form b faces in
    let six = six_bytes form b file in
    (omega arith, first_as _ _ (λ k l. ap (λ (a : ℕ). (bad_face_byte a).applies) (face_byte_is form b file k (omega arith))) first))
    (λ quads. let (number, most, first) = quads_first form b none quads in absurd (omega arith))

-- ---- 12

-- One of them.
piece_at : (size n i : ℕ) (l d : List ℕ) → i < n → get_or (pieces size n l) i d ≡ take size (drop (i * size) l)
unfolding pieces
piece_at size zero i l d h = absurd (omega arith)
piece_at size (suc n) zero l d h = rw (zero-mul size)
piece_at size (suc n) (suc i) l d h = rw (one_more i size, ← drop-drop (i * size) size l) (piece_at size n i (drop size l) d (omega arith))

-- One of the things that are made of a list's.
made_at : {A B : Type 0} (f : A → B) (l : List A) (i : ℕ) (d : A) (e : B) → i < length l → get_or (map f l) i e ≡ f (get_or l i d)
made_at f [] i d e h = absurd (omega arith)
made_at f (a ∷ l) zero d e h = refl
made_at f (a ∷ l) (suc i) d e h = made_at f l i d e (omega arith)

module _ (numbers : ℕ) where
  -- A quad of a section is read from its bytes on.
  quad_at_lem : (b : List ℕ) (q : ℕ) (e : List ℕ) → q < count_in b → get_or (quads_in numbers b) q e ≡ quad_in numbers (drop (q * quad_size numbers) (drop 4 b))
  unfolding quads_in records_in
  quad_at_lem b q e h =
      let size : ℕ = quad_size numbers in
      let ps : List (List ℕ) = pieces size (count_in b) (drop 4 b) in
      rw (pieces_cut size (count_in b) (count_in b * size) (drop 4 b) (omega arith))
      (made_at (quad_in numbers) ps q [] e (rw (pieces_length size (count_in b) (drop 4 b)) h)
      ∙ rw (piece_at size (count_in b) q (drop 4 b) [] h, pieces_cut 4 numbers (numbers * 4) (drop (q * size) (drop 4 b)) (omega arith)))

  quads_length : (b : List ℕ) → length (quads_in numbers b) ≡ count_in b
  unfolding quads_in
  quads_length b = length-map (pieces (quad_size numbers) (count_in b) (records_in (quad_size numbers) b)) (quad_in numbers) ∙ pieces_length (quad_size numbers) (count_in b) (records_in (quad_size numbers) b)

  -- The quads of a section on its face.
  abbrev group : OrientedBlockFace → List ℕ → List OrientedQuad
  group f b = on_face f (map quad_from (quads_in numbers b))

  group_long : (f : OrientedBlockFace) (b : List ℕ) → length (group f b) ≡ count_in b
  group_long f b = length-map (map quad_from (quads_in numbers b)) _ ∙ length-map (quads_in numbers b) quad_from ∙ quads_length b

  group_at_lem : (f : OrientedBlockFace) (b : List ℕ) (q : ℕ) (d : OrientedQuad) → q < count_in b
      → (get_or (group f b) q d).quad ≡ quad_from (quad_in numbers (drop (q * quad_size numbers) (drop 4 b)))
  group_at_lem f b q d h =
      let long = quads_length b in
      ap (λ (o : OrientedQuad). o.quad) (made_at (λ (u : UnorientedQuad). record { face = f; quad = u }) (map quad_from (quads_in numbers b)) q (quad_from []) d (rw (length-map (quads_in numbers b) quad_from) (omega arith)))
      ∙ made_at quad_from (quads_in numbers b) q [] (quad_from []) (omega arith)
      ∙ ap quad_from (quad_at_lem b q [] h)

  -- A quad of some sections, on the face of its group, is read from where it stands on.
  oriented_at : (fs : List OrientedBlockFace) (n : ℕ) (b : List ℕ) (q : ℕ) (d : OrientedQuad) → q < length (oriented fs (map (map quad_from) (groups_in numbers n b)))
      → (get_or (oriented fs (map (map quad_from) (groups_in numbers n b))) q d).quad ≡ quad_from (quad_in numbers (from_quad_in (quad_size numbers) n q b))
  unfolding oriented groups_in
  oriented_at [] n b q d h = absurd (omega arith)
  oriented_at (f ∷ fs) zero b q d h = absurd (omega arith)
  oriented_at (f ∷ fs) (suc n) b q d h =
      let size : ℕ = quad_size numbers in
      let others : List OrientedQuad = oriented fs (map (map quad_from) (groups_in numbers n (after_section size b))) in
      let long = group_long f b in
      split (ltb q (count_in b))
      (λ t. let here = ltb-true q (count_in b) t in
      rw (get_or-append (group f b) others d q (omega arith), quad_in_lem size n q b here) (group_at_lem f b q d here))
      (λ g. let past = ltb-false q (count_in b) g in
      let index : q ≡ length (group f b) + (q - count_in b) = omega arith in
      rw (quad_past size n q b past)
      (ap (λ (i : ℕ). (get_or (group f b ++ others) i d).quad) index
      ∙ ap (λ (o : OrientedQuad). o.quad) (get_or-append-add (group f b) others (q - count_in b) d)
      ∙ oriented_at fs n (after_section size b) (q - count_in b) d (omega (arith, length-append (group f b) others))))

-- 12 stands at the first byte of the quad that is outside the limits on its group's face: those before it are within them.
pub stands_12 : (form : Form) (b : List ℕ) (d : OrientedQuad) {p : ℕ} → parse form b ≡ refused 12 p
    → (p < length (mesh_quads (mesh_in form b)))
    × First (λ (q : ℕ). (bad_quad (get_or (mesh_quads (mesh_in form b)) q d).face (quad_from (quad_in form.numbers (standing form 12 q b)))).applies) p
unfolding mesh_in mesh_quads from_refusal from_quad
stands_12 form b d e =
    let fs : List OrientedBlockFace = map face_of (face_bytes_in b) in
    in_parts form b e
    (λ file. let (number, most, first) = file_first form b file in absurd (omega arith))
    (λ file faces. let (number, most, first) = faces_first form b faces in absurd (omega arith))
    (λ quads. let (number, inside, first) = quads_first form b d quads in (
      inside,
      first_as _ _ (λ q l. ap (bad_quad_on (get_or (mesh_quads (mesh_in form b)) q d).face)
          (oriented_at form.numbers fs 6 (after_section 1 b) q d (omega arith)
          ∙ ap (λ (r : List ℕ). quad_from (quad_in form.numbers r)) (sym (refusal_from form 12 q b).is))) first,
    ))
  where
    bad_quad_on : OrientedBlockFace → UnorientedQuad → Bool
    bad_quad_on f u = (bad_quad f u).applies
