-- Check 12 of one quad of a file after another, and of one section after another: what a loop has to show, in the form of its invariant. What is left decides as the whole does.
use mathlib.Core.List.{List, [], ◌∷◌, ◌++◌, map}
use mathlib.Core.Path.{◌≡◌, sym, ◌∙◌, ap}
use Prim.Native.Nat.{ℕ, ◌+◌, ◌-◌, ◌≤◌, ◌<◌}
use native.Mathlib.Omega.{arith}
use lib.ListN.{length, get_or, drop, length-map, drop_of_length-le}
use Rattle.geometry.specs.declared.face.OrientedBlockFace.{OrientedBlockFace}
use Rattle.geometry.specs.Refusal.{Answer, accepted, refused, Check, answer, checked}
use Rattle.geometry.specs.Checks.{bad_quad}
use Rattle.geometry.proofs.Refusals.{place_passes, place_refuses}
use Rattle.voxels.proofs.Asked.{drop_next}
use Rattle.greedy.specs.Call.{quad_from}
use Rattle.writing.specs.Handed.{OrientedQuad, on_face, oriented, numbered, bad_quad_at}
use Rattle.writing.proofs.Rest.{numbered_append}
use Rattle.saved.proofs.Checking.{checks_on, checks_stop, checks_done}
use Rattle.saved.specs.Form.{quad_size}
use Rattle.saved.specs.Read.{count_in, records_in, after_section, quad_in, quads_in, groups_in}
use Rattle.saved.specs.Private.{quad_of, bad_quads_of, bad_groups_of, Walk}
use Rattle.saved.proofs.Pieces.{quad_first}
use Rattle.saved.proofs.Walking.{quads_are, quads_count, groups_next}

-- ---- a section

-- Check 12 of some quads by their bytes, on a face, the first of them the file's quad k.
abbrev pub bad_pieces : ℕ → OrientedBlockFace → ℕ → List (List ℕ) → List Check
bad_pieces numbers face k ps = numbered bad_quad_at k (on_face face (map quad_from (map (quad_in numbers) ps)))

module _ (numbers : ℕ) (five : 5 ≤ numbers) (face : OrientedBlockFace) (first k : ℕ) (ps : List (List ℕ)) where
  -- The check of the quad at hand,
  abbrev here : List Check
  here = bad_quad_at (first + k) (record { face = face; quad = quad_of (get_or ps k []) })

  -- and of those after it.
  abbrev after : List Check
  after = bad_pieces numbers face (first + (k + 1)) (drop (k + 1) ps)

  quads_next : k < length ps → bad_pieces numbers face (first + k) (drop k ps) ≡ here ++ after
  unfolding numbered
  quads_next h =
      let next : first + (k + 1) ≡ first + k + 1 = omega arith in
      rw (drop_next ps k [] h, next, quad_first numbers (get_or ps k []) five)

  module _ {t : Answer (Unit {0})} (left : checked (bad_pieces numbers face (first + k) (drop k ps)) ≡ t) where
    -- Where the quad at hand passes those after it decide,
    pub quad_on : k < length ps → checked (bad_quad face (quad_of (get_or ps k [])) ∷ []) ≡ accepted tt → checked after ≡ t
    unfolding answer
    quad_on h e = checks_on here after (quads_next h) left (place_passes (bad_quad face (quad_of (get_or ps k []))) (first + k) [] e)

    -- where it is refused its number is the place,
    pub quad_stops : {m p : ℕ} → k < length ps → checked (bad_quad face (quad_of (get_or ps k [])) ∷ []) ≡ refused m p → refused m (first + k) ≡ t
    quad_stops h e = checks_stop here after (quads_next h) left (place_refuses (bad_quad face (quad_of (get_or ps k []))) (first + k) [] e)

    -- and at the end nothing is refused.
    pub quads_pass : length ps ≤ k → accepted tt ≡ t
    unfolding numbered
    quads_pass h = checks_done left (rw (drop_of_length-le ps {i = k} h))

-- ---- the sections

module _ {numbers k : ℕ} {b : List ℕ} (w : Walk numbers k b) (h : k < 6) (faces : List OrientedBlockFace) (six : length faces ≡ 6) (first : ℕ) (d : OrientedBlockFace) where
  module _ {n : ℕ} {records rest : List ℕ} (count : n ≡ count_in b) (are : records ≡ records_in (quad_size numbers) b) (is : rest ≡ after_section (quad_size numbers) b) where
    -- The checks of the section at hand,
    abbrev section : List Check
    section = bad_quads_of numbers (get_or faces k d) first n records

    -- and of those after it.
    abbrev sections : List Check
    sections = bad_groups_of numbers (drop (k + 1) faces) (first + n) (6 - (k + 1)) rest

    sections_next : bad_groups_of numbers (drop k faces) first (6 - k) b ≡ section ++ sections
    unfolding oriented
    sections_next =
        let group : List OrientedQuad = on_face (get_or faces k d) (map quad_from (quads_in numbers b)) in
        let others : List OrientedQuad = oriented (drop (k + 1) faces) (map (map quad_from) (groups_in numbers (6 - (k + 1)) (after_section (quad_size numbers) b))) in
        let many : length group ≡ count_in b = length-map (map quad_from (quads_in numbers b)) _ ∙ length-map (quads_in numbers b) quad_from ∙ quads_count numbers b in
        rw (count, are, is, drop_next faces k d (omega (arith, six)), groups_next numbers k b h, ← quads_are numbers b)
        (numbered_append bad_quad_at first group others ∙ ap (λ (m : ℕ). numbered bad_quad_at first group ++ numbered bad_quad_at (first + m) others) many)

    module _ {t : Answer (Unit {0})} (left : checked (bad_groups_of numbers (drop k faces) first (6 - k) b) ≡ t) where
      -- Where the section at hand passes those after it decide,
      pub section_on : {x : Answer (Unit {0})} → x ≡ checked section → x ≡ accepted tt → checked sections ≡ t
      section_on told e = checks_on section sections sections_next left (sym told ∙ e)

      -- and where it is refused that stands.
      pub section_stops : {x : Answer (Unit {0})} {m p : ℕ} → x ≡ checked section → x ≡ refused m p → refused m p ≡ t
      section_stops told e = checks_stop section sections sections_next left (sym told ∙ e)

-- At the end nothing is refused.
pub sections_pass : (numbers k : ℕ) (b : List ℕ) (faces : List OrientedBlockFace) (first : ℕ) {t : Answer (Unit {0})}
    → checked (bad_groups_of numbers (drop k faces) first (6 - k) b) ≡ t → length faces ≡ 6 → 6 ≤ k → accepted tt ≡ t
unfolding oriented numbered
sections_pass numbers k b faces first left six h = checks_done left (rw (drop_of_length-le faces {i = k} (omega (arith, six))))
