-- A walk over the sections of quads of a file that 16 does not refuse: what the section at hand has, and what is left after it. And how such a file begins, and how long it is.
use mathlib.Core.Bool.{false}
use mathlib.Core.List.{List, [], ◌∷◌, map}
use mathlib.Core.Path.{◌≡◌, refl, ◌∙◌, ap}
use Prim.Native.Nat.{ℕ, zero, suc, ◌+◌, ◌-◌, ◌*◌, ◌≤◌, ◌<◌}
use native.Mathlib.Nat.{zero-mul, add-mul, mul-one}
use native.Mathlib.Omega.{arith}
use lib.ListN.{length, take, drop, length-append, length-drop}
use lib.Seq.{take-take, drop-drop}
use Rattle.geometry.specs.Refusal.{accepted, checked}
use Rattle.geometry.proofs.Refusals.{first_passes, rest_accepts}
use Rattle.voxels.proofs.Loops.{more, done}
use Rattle.listing.specs.Listing.{joined}
use Rattle.saved.specs.Bytes.{read_all}
use Rattle.saved.specs.Form.{Form, quad_size, head_count, face_of}
use Rattle.saved.specs.Read.{count_in, extent_in, records_in, after_section, ends_early, bad_file, goes_on, section_checks, file_checks, face_bytes_in, quad_in, quads_in, groups_in, mesh_in}
use Rattle.saved.specs.Private.{Walk}
use Rattle.saved.proofs.Section.{count_there, records_there}
use Rattle.saved.proofs.Items.{read_length}
use Rattle.saved.proofs.Roundtrip.{head_and_rest, section_0_whole, head_told}

-- ---- the groups of sections

-- The quads of a section are read from its records,
pub quads_are : (numbers : ℕ) (b : List ℕ) → quads_in numbers b ≡ read_all (quad_size numbers) (quad_in numbers) (count_in b) (records_in (quad_size numbers) b)
unfolding quads_in
quads_are numbers b = refl

-- as many as its count says;
pub quads_count : (numbers : ℕ) (b : List ℕ) → length (quads_in numbers b) ≡ count_in b
quads_count numbers b = ap length (quads_are numbers b) ∙ read_length (quad_size numbers) (quad_in numbers) (count_in b) (records_in (quad_size numbers) b)

-- and the groups that are left are those quads, and those after them, or none.
pub groups_next : (numbers k : ℕ) (b : List ℕ) → k < 6 → groups_in numbers (6 - k) b ≡ quads_in numbers b ∷ groups_in numbers (6 - (k + 1)) (after_section (quad_size numbers) b)
unfolding groups_in
groups_next numbers k b h = rw (more k 6 h)

pub groups_none : (numbers k : ℕ) (b : List ℕ) → 6 ≤ k → groups_in numbers (6 - k) b ≡ []
unfolding groups_in
groups_none numbers k b h = rw (done k 6 h)

-- ---- the walk

module _ {numbers k : ℕ} {b : List ℕ} (w : Walk numbers k b) (h : k < 6) where
  here_and_after : checked (bad_file (k + 1) (ends_early (quad_size numbers) b) ∷ section_checks (quad_size numbers) (k + 1 + 1) (6 - (k + 1)) (after_section (quad_size numbers) b)) ≡ accepted tt
  unfolding section_checks
  here_and_after = rw (more k 6 h) at w.whole

  -- The section at hand is whole,
  pub walk_whole : ends_early (quad_size numbers) b ≡ false
  walk_whole = first_passes _ _ tt here_and_after

  -- and after it the walk goes on.
  pub walk_on : {rest : List ℕ} → rest ≡ after_section (quad_size numbers) b → Walk numbers (k + 1) rest
  walk_on is = record { most = omega arith; whole = rw is (rest_accepts (bad_file (k + 1) (ends_early (quad_size numbers) b)) _ tt here_and_after) }

-- ---- how long a file is

none_left : (b : List ℕ) → goes_on b ≡ false → length b ≡ 0
none_left [] h = refl
none_left (a ∷ b) h = cc

-- A section that is whole: its count, its records, and what follows.
pub after_length : (size : ℕ) (b : List ℕ) → ends_early size b ≡ false → length b ≡ 4 + count_in b * size + length (after_section size b)
unfolding after_section
after_length size b e =
    omega (arith, count_there size b e, records_there size b e, length-drop 4 b, length-drop (extent_in size b) (drop 4 b))

-- Sections that are not refused are their counts, and their quads.
sections_length : (numbers n k : ℕ) (b : List ℕ) → checked (section_checks (quad_size numbers) k n b) ≡ accepted tt → length b ≡ 4 * n + length (joined (groups_in numbers n b)) * quad_size numbers
unfolding section_checks groups_in joined quads_in
sections_length numbers zero k b e = rw (zero-mul (quad_size numbers)) (none_left b (first_passes (bad_file k (goes_on b)) [] tt e))
sections_length numbers (suc n) k b e =
    let here : ends_early (quad_size numbers) b ≡ false = first_passes (bad_file k (ends_early (quad_size numbers) b)) _ tt e in
    let others = rest_accepts (bad_file k (ends_early (quad_size numbers) b)) (section_checks (quad_size numbers) (k + 1) n (after_section (quad_size numbers) b)) tt e in
    rw (
      length-append (quads_in numbers b) (joined (groups_in numbers n (after_section (quad_size numbers) b))),
      read_length (quad_size numbers) (quad_in numbers) (count_in b) (records_in (quad_size numbers) b),
      add-mul (count_in b) (length (joined (groups_in numbers n (after_section (quad_size numbers) b)))) (quad_size numbers),
    )
    (omega (arith, after_length (quad_size numbers) b here, sections_length numbers n (k + 1) (after_section (quad_size numbers) b) others))

-- ---- how a file begins

-- Where the sections of quads begin, after a mark.
abbrev pub first_quads : List ℕ → ℕ
first_quads mark = 10 + length mark

module _ (form : Form) (b : List ℕ) (file : checked (file_checks form b) ≡ accepted tt) where
  head_count_lem : count_in b ≡ 6 + length form.mark
  unfolding head_count
  head_count_lem = (head_told form b file).0

  -- Section 0 is there,
  pub head_inside : first_quads form.mark ≤ length b
  head_inside = omega (arith, count_there 1 b (section_0_whole form b file), records_there 1 b (section_0_whole form b file), length-drop 4 b, head_count_lem)

  pub face_bytes_inside : 10 ≤ length b
  face_bytes_inside = omega (arith, head_inside)

  -- its first six bytes are the face bytes,
  pub face_bytes_at : face_bytes_in b ≡ take 6 (drop 4 b)
  unfolding face_bytes_in records_in
  face_bytes_at = take-take 6 (extent_in 1 b) (drop 4 b) (omega (arith, head_count_lem))

  -- and the other sections follow it.
  after_head : after_section 1 b ≡ drop (first_quads form.mark) b
  unfolding after_section
  after_head =
      let sum : 4 + (6 + length form.mark) ≡ first_quads form.mark = omega arith in
      rw (head_count_lem, mul-one, drop-drop (6 + length form.mark) 4 b, sum)

  pub walk_start : Walk form.numbers 0 (drop (first_quads form.mark) b)
  walk_start = record { most = omega arith; whole = rw (← after_head) (head_and_rest form b file).1 }

  -- So its mesh is,
  pub mesh_at : mesh_in form b ≡ record { faces = map face_of (take 6 (drop 4 b)); groups = groups_in form.numbers 6 (drop (first_quads form.mark) b) }
  unfolding mesh_in
  mesh_at = rw (face_bytes_at, after_head)

  -- and so long it is.
  pub file_length : length b ≡ first_quads form.mark + 24 + length (joined (groups_in form.numbers 6 (drop (first_quads form.mark) b))) * quad_size form.numbers
  file_length =
      let quads = sections_length form.numbers 6 1 (after_section 1 b) (head_and_rest form b file).1 in
      let whole = after_length 1 b (section_0_whole form b file) in
      rw (← after_head) (omega (arith, head_count_lem))
