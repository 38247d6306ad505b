-- Checks asked one after another: what a loop over them has to show, in the form of its invariant. "What is left to ask decides as the whole does."
use Rattle.std.proofs.Common.{◌≡◌, ℕ, zero, suc, ◌+◌, ◌-◌, ◌<◌, ◌≤◌, List, [], ◌∷◌, ◌++◌, length, get_or, drop, sym, refl, ap, ◌∙◌, not-suc-le-zero, suc-add, arith, drop_of_length-le, eq-eqb, ne_eqb}
use Rattle.geometry.specs.declared.face.OrientedBlockFace.{OrientedBlockFace}
use Rattle.geometry.specs.Refusal.{Answer, accepted, refused, Check, at_place, answer, checked, follow}
use Rattle.geometry.specs.Checks.{bad_sign}
use Rattle.geometry.proofs.Refusals.{in_turn, place_passes, place_refuses}
use Rattle.voxels.specs.Voxel.{class}
use Rattle.voxels.specs.Loop.{every, step_by}
use Rattle.voxels.specs.Checks.{bad_faces_from}
use Rattle.voxels.specs.Rows.{bad_at}
use Rattle.voxels.proofs.Loops.{loop_start, loop_next, loop_none}

-- A loop over checks that lie a stride apart.
module _ (d : ℕ) (g : ℕ → List Check) (i k n : ℕ) {t : Answer (Unit {0})} (left : checked (every d i (n - k) g) ≡ t) where
  -- Those at hand decide, or the rest does.
  pub ask_next : k < n → follow (checked (g i)) (checked (every d (i + d) (n - (k + 1)) g)) ≡ t
  ask_next h = sym (in_turn (g i) (every d (i + d) (n - (k + 1)) g) tt) ∙ sym (ap checked (loop_next [] ◌++◌ (step_by d) g i k n h)) ∙ left

  -- Where they pass the loop goes on,
  pub ask_on : k < n → checked (g i) ≡ accepted tt → checked (every d (i + d) (n - (k + 1)) g) ≡ t
  ask_on h e = rw e at (ask_next h)

  -- where they refuse it stops,
  pub ask_stops : {m p : ℕ} → k < n → checked (g i) ≡ refused m p → refused m p ≡ t
  ask_stops h e = rw e at (ask_next h)

  -- and at its end nothing is refused.
  pub ask_done : n ≤ k → accepted tt ≡ t
  unfolding answer
  ask_done h = sym (ap checked (loop_none [] ◌++◌ (step_by d) g i k n h)) ∙ left

-- The loop's start.
pub ask_start : (d : ℕ) (g : ℕ → List Check) (i n : ℕ) → checked (every d i (n - 0) g) ≡ checked (every d i n g)
ask_start d g i n = ap checked (loop_start [] ◌++◌ (step_by d) g i n)

-- One voxel: it is bad,
pub bad_here : (vs : List ℕ) (i : ℕ) {k : ℕ} → k ≡ class (get_or vs i 0) → k ≡ 3 → checked (bad_at vs i) ≡ refused 8 i
unfolding answer
bad_here vs i is e = rw (← is, eq-eqb _ 3 e)

-- or not.
pub good_here : (vs : List ℕ) (i : ℕ) {k : ℕ} → k ≡ class (get_or vs i 0) → (k ≡ 3 → ⊥) → checked (bad_at vs i) ≡ accepted tt
unfolding answer
good_here vs i is d = rw (← is, ne_eqb _ 3 d)

-- A list from its k-th on.
pub drop_next : {A : Type 0} (l : List A) (k : ℕ) (d : A) → k < length l → drop k l ≡ get_or l k d ∷ drop (k + 1) l
drop_next [] k d h = absurd (not-suc-le-zero h)
drop_next (x ∷ l) zero d h = refl
drop_next (x ∷ l) (suc k) d h = rw (suc-add k 1) (drop_next l k d (omega arith))

-- A loop over faces, one after another.
module _ (faces : List OrientedBlockFace) (k : ℕ) (d : OrientedBlockFace) {t : Answer (Unit {0})} (left : checked (bad_faces_from k (drop k faces)) ≡ t) where
  face_next : k < length faces → checked (at_place k (bad_sign (get_or faces k d)) ∷ bad_faces_from (k + 1) (drop (k + 1) faces)) ≡ t
  unfolding bad_faces_from
  face_next h = rw (drop_next faces k d h) at left

  pub face_on : k < length faces → checked (bad_sign (get_or faces k d) ∷ []) ≡ accepted tt → checked (bad_faces_from (k + 1) (drop (k + 1) faces)) ≡ t
  face_on h e = sym (place_passes (bad_sign (get_or faces k d)) k _ e) ∙ face_next h

  pub face_stops : {m p : ℕ} → k < length faces → checked (bad_sign (get_or faces k d) ∷ []) ≡ refused m p → refused m k ≡ t
  face_stops h e = sym (place_refuses (bad_sign (get_or faces k d)) k _ e) ∙ face_next h

pub face_done : (faces : List OrientedBlockFace) (k : ℕ) {t : Answer (Unit {0})} → checked (bad_faces_from k (drop k faces)) ≡ t → length faces ≤ k → accepted tt ≡ t
unfolding bad_faces_from answer
face_done faces k left h = rw (drop_of_length-le faces h) at left
