-- The numbers that checks give, and those that a writer's checks may give: neither 0, by which an accepted call is known, nor 15, which comes after them. So an answer of 0 or 15 is of a call whose checks passed.
use Rattle.std.proofs.Common.{◌≡◌, ℕ, ◌+◌, Bool, true, false, not, ◌&&◌, eqb, List, [], ◌∷◌, ◌++◌, length, sym, refl, ◌∙◌}
use mathlib.Core.Bool.{false≢true}
use Rattle.geometry.specs.declared.face.OrientedBlockFace.{OrientedBlockFace}
use Rattle.geometry.specs.Refusal.{refused, Check, checked, answer}
use Rattle.geometry.specs.Lists.{Each}
use Rattle.geometry.proofs.Refusals.{split, applies, passes, refused_number, not_both}
use Rattle.geometry.proofs.Lists.{each_append}
use Rattle.voxels.specs.Checks.{bad_faces_from, bad_faces}
use Rattle.listing.specs.Listing.{capacity}
use Rattle.writing.specs.Handed.{OrientedQuad, numbered, handed, past_list, bad_quad_at, bad_quads, many_quads, handed_checks}

-- ---- any checks

-- Of a test of numbers.
module _ (may : ℕ → Bool) where
  -- A check that gives a number which passes it.
  abbrev pub Numbered : Check → Type 0
  Numbered c = may c.number ≡ true

  -- Such checks refuse with such a number,
  refused_numbered : (cs : List Check) → Each Numbered cs → {n p : ℕ} → checked cs ≡ refused n p → may n ≡ true
  unfolding Each answer
  refused_numbered [] h e = absurd (not_both e)
  refused_numbered (c ∷ cs) h {n} {p} e =
      split c.applies
      (λ t. let is : c.number ≡ n = refused_number (sym (applies c cs tt t) ∙ e) in rw (sym is) h.0)
      (λ f. refused_numbered cs h.1 (sym (passes c cs tt f) ∙ e))

  -- and never with another.
  pub never : (cs : List Check) → Each Numbered cs → (m : ℕ) → may m ≡ false → (p : ℕ) → checked cs ≡ refused m p → ⊥
  never cs h m other p e = let clash : true ≡ false = sym (refused_numbered cs h e) ∙ other in false≢true (sym clash)

  -- Those of faces give 6.
  pub faces_numbered : may 6 ≡ true → (k : ℕ) (fs : List OrientedBlockFace) → Each Numbered (bad_faces_from k fs)
  unfolding bad_faces_from Each
  faces_numbered six k [] = tt
  faces_numbered six k (f ∷ fs) = (six, faces_numbered six (k + 1) fs)

-- ---- those of a mesh

-- Whether a writer's checks may give a number.
abbrev pub writer_number : ℕ → Bool
writer_number n = not (eqb n 0) && not (eqb n 15)

-- A check that gives such a number.
abbrev pub WriterCheck : Check → Type 0
WriterCheck c = Numbered writer_number c

quads_numbered : (k : ℕ) (qs : List OrientedQuad) → Each WriterCheck (numbered bad_quad_at k qs)
unfolding numbered Each
quads_numbered k [] = tt
quads_numbered k (q ∷ qs) = (refl, quads_numbered (k + 1) qs)

-- Those of a mesh that is handed in do: 24, 6, 12 and 13.
module _ (numbers : ℕ) (faces : List OrientedBlockFace) (counts list : List ℕ) where
  abbrev past : List Check
  past = past_list (capacity numbers (length list)) counts

  abbrev quads : List OrientedQuad
  quads = handed numbers faces counts list

  pub handed_numbered : Each WriterCheck (handed_checks numbers faces counts list)
  unfolding handed_checks Each
  handed_numbered =
      each_append WriterCheck (past ++ bad_faces faces ++ bad_quads quads) (many_quads counts)
      (each_append WriterCheck (past ++ bad_faces faces) (bad_quads quads) (each_append WriterCheck past (bad_faces faces) (refl, tt) (faces_numbered writer_number refl 0 faces)) (quads_numbered 0 quads))
      (refl, tt)
