-- The order 24, 6, 12, 13 of a mesh that is handed in: each part refuses where those before it have passed, and what a mesh that passes all of it has.
use mathlib.Core.Bool.{not}
use mathlib.Core.List.{List, [], ◌∷◌, ◌++◌}
use mathlib.Core.Path.{◌≡◌, refl, sym, ◌∙◌, ap}
use Prim.Native.Nat.{ℕ, ◌+◌, ◌≤◌, ◌<◌}
use lib.ListN.{length}
use borrow.Author.Tests.{lt-ltb, le-ltb, ltb-false, not-false}
use Rattle.geometry.specs.declared.face.OrientedBlockFace.{OrientedBlockFace}
use Rattle.geometry.specs.Refusal.{Answer, accepted, refused, Check, answer, checked, follow}
use Rattle.geometry.specs.Lists.{Each}
use Rattle.geometry.proofs.Refusals.{in_turn, applies, passes, first_passes, accepts_checked, accepts_value, answer_refused}
use Rattle.geometry.proofs.Orders.{both_pass}
use Rattle.voxels.specs.Checks.{bad_faces}
use Rattle.voxels.proofs.Faces.{faces_proper}
use Rattle.listing.specs.Listing.{capacity}
use Rattle.writing.specs.Handed.{OrientedQuad, numbered, handed, total, past_list, bad_quad_at, bad_quads, most_quads, many_quads, handed_checks}
use Rattle.writing.specs.Statements.{WithinQuad, Passes}

-- Checks that pass, and others that do.
both_checked : (cs ds : List Check) → checked cs ≡ accepted tt → checked ds ≡ accepted tt → checked (cs ++ ds) ≡ accepted tt
both_checked cs ds c d = in_turn cs ds tt ∙ rw (c, d)

module _ (numbers : ℕ) (faces : List OrientedBlockFace) (counts list : List ℕ) where
  abbrev room : ℕ
  room = capacity numbers (length list)

  abbrev quads : List OrientedQuad
  quads = handed numbers faces counts list

  abbrev whole : Answer ℕ
  whole = answer (handed_checks numbers faces counts list) (total counts)

  in_order : whole ≡ follow (follow (follow (checked (past_list room counts)) (checked (bad_faces faces))) (checked (bad_quads quads))) (answer (many_quads counts) (total counts))
  unfolding handed_checks
  in_order =
      in_turn (past_list room counts ++ bad_faces faces ++ bad_quads quads) (many_quads counts) (total counts)
      ∙ ap (λ (x : Answer (Unit {0})). follow x (answer (many_quads counts) (total counts)))
      (in_turn (past_list room counts ++ bad_faces faces) (bad_quads quads) tt
      ∙ ap (λ (x : Answer (Unit {0})). follow x (checked (bad_quads quads))) (in_turn (past_list room counts) (bad_faces faces) tt))

  -- 24 refuses first.
  pub counts_refuse : {n p : ℕ} → answer (past_list room counts) (total counts) ≡ refused n p → refused n p ≡ whole
  counts_refuse e = sym (rw (answer_refused (past_list room counts) (total counts) e) at in_order)

  module _ {n : ℕ} (counted : answer (past_list room counts) (total counts) ≡ accepted n) where
    after_counts : checked (past_list room counts) ≡ accepted tt
    after_counts = accepts_checked (past_list room counts) (total counts) counted

    -- Where it passes all the quads are the list's,
    pub counts_held : total counts ≤ room
    counts_held = ltb-false room (total counts) (first_passes _ [] tt after_counts)

    -- and 6 refuses next;
    pub faces_refuse : {m p : ℕ} → checked (bad_faces faces) ≡ refused m p → refused m p ≡ whole
    faces_refuse e = sym (rw (after_counts, e) at in_order)

    module _ (signs : checked (bad_faces faces) ≡ accepted tt) where
      -- then 12,
      pub quads_refuse : {m p : ℕ} → checked (bad_quads quads) ≡ refused m p → refused m p ≡ whole
      quads_refuse e = sym (rw (after_counts, signs, e) at in_order)

      module _ (within : checked (bad_quads quads) ≡ accepted tt) where
        at_last : whole ≡ answer (many_quads counts) (total counts)
        at_last = rw (after_counts, signs, within) at in_order

        -- and 13 at last.
        pub many_refuse : most_quads < n → refused 13 0 ≡ whole
        many_refuse h = sym (at_last ∙ applies _ [] _ (lt-ltb most_quads (total counts) (rw (sym (accepts_value (past_list room counts) (total counts) counted)) at h)))

        pub none_refuse : n ≤ most_quads → accepted n ≡ whole
        unfolding answer
        none_refuse h =
            let sum : total counts ≡ n = accepts_value (past_list room counts) (total counts) counted in
            sym (at_last ∙ passes _ [] (total counts) (le-ltb most_quads (total counts) (rw (sym sum) at h)) ∙ ap accepted sum)

-- Where 12 refuses no quad each is within the limits,
quads_within : (k : ℕ) (qs : List OrientedQuad) → checked (numbered bad_quad_at k qs) ≡ accepted tt → Each WithinQuad qs
unfolding numbered Each
quads_within k [] h = tt
quads_within k (q ∷ qs) h =
    let (here, rest) = both_pass (bad_quad_at k q) (numbered bad_quad_at (k + 1) qs) h in
    (not-false _ (first_passes _ [] tt here), quads_within (k + 1) qs rest)

-- and the other way.
within_quads : (k : ℕ) (qs : List OrientedQuad) → Each WithinQuad qs → checked (numbered bad_quad_at k qs) ≡ accepted tt
unfolding numbered Each answer
within_quads k [] h = refl
within_quads k (q ∷ qs) h = passes _ (numbered bad_quad_at (k + 1) qs) tt (ap not h.0) ∙ within_quads (k + 1) qs h.1

-- A mesh that passes the whole order has all that it asks.
pub order_passed : (numbers : ℕ) (faces : List OrientedBlockFace) (counts list : List ℕ) → checked (handed_checks numbers faces counts list) ≡ accepted tt → Passes numbers faces counts list
unfolding handed_checks
order_passed numbers faces counts list h =
    let qs : List OrientedQuad = handed numbers faces counts list in
    let past : List Check = past_list (capacity numbers (length list)) counts in
    let (to-quads, few) = both_pass (past ++ bad_faces faces ++ bad_quads qs) (many_quads counts) h in
    let (to_faces, within) = both_pass (past ++ bad_faces faces) (bad_quads qs) to-quads in
    let (held, signs) = both_pass past (bad_faces faces) to_faces in
    record {
      held = ltb-false _ _ (first_passes _ [] tt held);
      signs = faces_proper 0 faces signs;
      quads = quads_within 0 qs within;
      few = ltb-false _ _ (first_passes _ [] tt few);
    }

-- And one that has all of it passes.
pub passed_order : (numbers : ℕ) (faces : List OrientedBlockFace) (counts list : List ℕ)
    → total counts ≤ capacity numbers (length list) → checked (bad_faces faces) ≡ accepted tt → Each WithinQuad (handed numbers faces counts list) → total counts ≤ most_quads
    → checked (handed_checks numbers faces counts list) ≡ accepted tt
unfolding handed_checks answer
passed_order numbers faces counts list held signs within few =
    let qs : List OrientedQuad = handed numbers faces counts list in
    let past : List Check = past_list (capacity numbers (length list)) counts in
    both_checked (past ++ bad_faces faces ++ bad_quads qs) (many_quads counts)
    (both_checked (past ++ bad_faces faces) (bad_quads qs) (both_checked past (bad_faces faces) (passes _ [] tt (le-ltb _ _ held)) signs) (within_quads 0 qs within))
    (passes _ [] tt (le-ltb _ _ few))
