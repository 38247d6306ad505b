-- The numbers that an entry may give: neither 0, by which an accepted call is known, nor 9, which comes after the entry. So an answer of 0 or 9 is of a call whose entry passed.
use Rattle.std.proofs.Common.{◌≡◌, ℕ, ◌+◌, Bool, true, false, not, ◌&&◌, eqb, List, [], ◌∷◌, ◌++◌, map, length, sym, refl, ◌∙◌}
use mathlib.Core.Bool.{false≢true}
use Rattle.geometry.specs.declared.face.OrientedBlockFace.{OrientedBlockFace}
use Rattle.geometry.specs.Refusal.{refused, Check, checked, answer}
use Rattle.geometry.specs.Point.{Point}
use Rattle.geometry.specs.Lists.{Each}
use Rattle.geometry.proofs.Refusals.{split, applies, passes, refused_number, not_both}
use Rattle.geometry.proofs.Lists.{each_append}
use Rattle.voxels.specs.Shape.{index}
use Rattle.voxels.specs.Extent.{box, scan}
use Rattle.voxels.specs.Checks.{bounds_checks, bad_faces_from, bad_faces, few_visited, bad_voxel_at, bad_voxels, unit_checks, greedy_checks}

-- Whether an entry may give a number.
abbrev pub entry_number : ℕ → Bool
entry_number n = not (eqb n 0) && not (eqb n 9)

-- A check that gives such a number.
abbrev EntryCheck : Check → Type 0
EntryCheck c = entry_number c.number ≡ true

-- Such checks refuse with such a number.
refused_entry : (cs : List Check) → Each EntryCheck cs → {n p : ℕ} → checked cs ≡ refused n p → entry_number n ≡ true
unfolding Each answer
refused_entry [] h e = absurd (not_both e)
refused_entry (c ∷ cs) h {n} {p} e =
    split c.applies
    (λ t. let is : c.number ≡ n = refused_number (sym (applies c cs tt t) ∙ e) in rw (sym is) h.0)
    (λ f. refused_entry cs h.1 (sym (passes c cs tt f) ∙ e))

never : (cs : List Check) → Each EntryCheck cs → (m : ℕ) → entry_number m ≡ false → (p : ℕ) → checked cs ≡ refused m p → ⊥
never cs h m other p e = let clash : true ≡ false = sym (refused_entry cs h e) ∙ other in false≢true (sym clash)

faces_numbered : (k : ℕ) (fs : List OrientedBlockFace) → Each EntryCheck (bad_faces_from k fs)
unfolding bad_faces_from Each
faces_numbered k [] = tt
faces_numbered k (f ∷ fs) = (refl, faces_numbered (k + 1) fs)

voxels_numbered : (voxels : List ℕ) (shape : Point) (l : List Point) → Each EntryCheck (map (λ (p : Point). bad_voxel_at voxels (index shape p)) l)
unfolding Each
voxels_numbered voxels shape [] = tt
voxels_numbered voxels shape (p ∷ l) = (refl, voxels_numbered voxels shape l)

module _ (voxels : List ℕ) (shape min max : Point) (faces : List OrientedBlockFace) where
  bounds_numbered : Each EntryCheck (bounds_checks (length voxels) shape min max)
  unfolding Each bounds_checks
  bounds_numbered = (refl, (refl, (refl, (refl, (refl, (refl, (refl, (refl, (refl, (refl, (refl, (refl, (refl, tt)))))))))))))

  to_faces : Each EntryCheck (bounds_checks (length voxels) shape min max ++ bad_faces faces)
  to_faces = each_append EntryCheck (bounds_checks (length voxels) shape min max) (bad_faces faces) bounds_numbered (faces_numbered 0 faces)

  -- Of unit meshing,
  pub unit_never : (m : ℕ) → entry_number m ≡ false → (p : ℕ) → checked (unit_checks voxels shape min max faces) ≡ refused m p → ⊥
  unfolding bad_voxels
  unit_never =
      never (unit_checks voxels shape min max faces)
      (each_append EntryCheck (bounds_checks (length voxels) shape min max ++ bad_faces faces) (bad_voxels voxels shape min max) to_faces (voxels_numbered voxels shape (scan (box min max))))

  -- and of greedy meshing.
  pub greedy_never : (lent m : ℕ) → entry_number m ≡ false → (p : ℕ) → checked (greedy_checks voxels shape min max faces lent) ≡ refused m p → ⊥
  unfolding bad_voxels Each
  greedy_never lent =
      never (greedy_checks voxels shape min max faces lent)
      (each_append EntryCheck (bounds_checks (length voxels) shape min max ++ bad_faces faces ++ few_visited lent shape) (bad_voxels voxels shape min max)
      (each_append EntryCheck (bounds_checks (length voxels) shape min max ++ bad_faces faces) (few_visited lent shape) to_faces (refl, tt))
      (voxels_numbered voxels shape (scan (box min max))))
