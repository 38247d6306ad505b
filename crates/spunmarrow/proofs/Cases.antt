-- Laws of numbers that stand for a case, and of the face of a sign and a number.
use mathlib.Core.List.{List, []}
use mathlib.Core.Path.{◌≡◌, sym, ◌∙◌, ap}
use Prim.Native.Nat.{ℕ, ◌≤◌}
use lib.IntN.{ℤ}
use lib.Dec.{leb}
use lib.ListN.{length}
use borrow.Author.Tests.{le-leb}
use mir.Syntax.{w32}
use mir.Val.{SFits, of_z, to_z}
use mir.Facts.{to_z-of_z}
use Rattle.geometry.specs.declared.axis.AxisPermutation.{AxisPermutation}
use Rattle.geometry.specs.declared.face.OrientedBlockFace.{OrientedBlockFace}
use Rattle.geometry.specs.Axes.{permutation_of}
use Rattle.geometry.specs.Refusal.{Answer, accepted, refused, at_place0}
use Rattle.geometry.proofs.Refusals.{applies}
use Rattle.spunmarrow.specs.Numbers.{numbered, face, face_of}

-- Past the end of the list there is no case.
pub number_none : {A : Type 0} (l : List A) (d : A) {k : ℕ} → length l ≤ k → refused 17 0 ≡ numbered l d k
unfolding numbered
number_none l d {k} h = sym (applies (at_place0 17 (leb (length l) k)) [] _ (le-leb (length l) k h))

-- What is read of a sign's bits is what the sign stands for.
pub face_read : (s : ℤ) (k : ℕ) {x : Answer OrientedBlockFace} → SFits w32 s → x ≡ face_of (to_z w32 (of_z w32 s)) k → face_of s k ≡ x
face_read s k fits read = ap (λ (s : ℤ). face_of s k) (sym (to_z-of_z fits)) ∙ sym read

-- The face of a sign and a number is that of the permutation which the number has,
pub face_made : (s : ℤ) (k : ℕ) {p : AxisPermutation} → SFits w32 s → accepted p ≡ permutation_of k → accepted (face (to_z w32 (of_z w32 s)) p) ≡ face_of s k
unfolding face_of
face_made s k fits read = rw (to_z-of_z fits, ← read)

-- or there is none.
pub face_refused : (s : ℤ) (k : ℕ) {n p : ℕ} → refused n p ≡ permutation_of k → refused n p ≡ face_of s k
unfolding face_of
face_refused s k read = rw (← read)
