-- Laws of the six faces that twelve numbers stand for.
use mathlib.Core.Bool.{Bool, true, false, not}
use mathlib.Core.List.{List, [], ◌∷◌}
use mathlib.Core.Path.{◌≡◌, refl, sym, ◌∙◌, ap, subst}
use Prim.Native.Nat.{ℕ, ◌+◌, ◌-◌, ◌<◌, ◌^◌}
use native.Mathlib.Nat.{lt_of_le_of_lt, not-suc-le-zero}
use borrow.Author.Tests.{ltb-true, leb-true}
use lib.IntN.{ℤ, pos, negsuc, nat_abs}
use lib.Dec.{T, leb, lit<}
use lib.ListN.{length, get_or, get_or-eq_default}
use borrow.Author.Rules.{sfits_of}
use lib.Signed.{mag, lt_z, lt_z_no, non_neg, yes_non_neg, nat_abs-le}
use mir.Syntax.{w32}
use mir.Val.{SFits, Fits, of_z, to_z, hbits}
use mir.Facts.{to_z-of_z}
use Rattle.std.specs.Result.{result_unwrap_or}
use Rattle.std.specs.declared.result.Result.{Result}
use Rattle.std.specs.declared.result.Result.TheVariants.{Ok, Err}
use Rattle.geometry.specs.declared.refusal.Refusal.{Refusal}
use Rattle.geometry.specs.Answers.{meaning}
use Rattle.geometry.specs.declared.axis.AxisPermutation.{AxisPermutation}
use Rattle.geometry.specs.declared.axis.AxisPermutation.TheVariants.{Xyz}
use Rattle.geometry.specs.Axes.{permutations, no_permutation, permutation_of}
use Rattle.geometry.specs.Refusal.{Answer, accepted, refused, answer, checked, at_place0}
use Rattle.geometry.proofs.Refusals.{split, applies, passes, accepts_value, accepts_checked, answer_refused, place_passes, place_refuses}
use Rattle.voxels.specs.Loop.{every}
use Rattle.voxels.proofs.Asked.{ask_on, ask_stops}
use Rattle.spunmarrow.specs.Numbers.{face}
use Rattle.spunmarrow.specs.Faces.{no_signed, signed_or, signed_permutation, sign_at, number_at, bad_number, face_at}

-- ---- a signed number

-- Below 0 there is no permutation.
below_none : (z : ℤ) → lt_z z (pos 0) ≡ true → refused 17 0 ≡ signed_permutation z
unfolding signed_permutation
below_none (pos k) e = absurd (not-suc-le-zero (ltb-true k 0 e))
below_none (negsuc k) e = sym (applies (at_place0 17 true) [] Xyz refl)

-- Any other number is a natural one.
not_below : (z : ℤ) → lt_z z (pos 0) ≡ false → T (non_neg z)
not_below z e = yes_non_neg {z = z} (lt_z_no {a = z} {b = pos 0} (subst (λ (b : Bool). T (not b)) (sym e) tt))

-- A natural number's permutation.
natural_is : (z : ℤ) → T (non_neg z) → permutation_of (nat_abs z) ≡ signed_permutation z
unfolding signed_permutation permutation_of
natural_is (pos k) h = refl
natural_is (negsuc k) h = absurd h

-- The same of a machine's test and cast, which read a number's bits.
module _ (z : ℤ) (fits : SFits w32 z) where
  pub signed_none : lt_z (to_z w32 (of_z w32 z)) (pos 0) ≡ true → refused 17 0 ≡ signed_permutation z
  signed_none e = below_none z (rw (to_z-of_z fits) at e)

  natural : lt_z (to_z w32 (of_z w32 z)) (pos 0) ≡ false → T (non_neg z)
  natural e = not_below z (rw (to_z-of_z fits) at e)

  pub signed_casts : lt_z (to_z w32 (of_z w32 z)) (pos 0) ≡ false → T (non_neg (to_z w32 (of_z w32 z))) × Fits w32 (nat_abs (to_z w32 (of_z w32 z)))
  signed_casts e = rw (to_z-of_z fits) (natural e, record { fits = lt_of_le_of_lt (nat_abs-le z fits.sfits) (lit< tt) })

  pub signed_is : {x : Answer AxisPermutation} → lt_z (to_z w32 (of_z w32 z)) (pos 0) ≡ false → x ≡ permutation_of (nat_abs (to_z w32 (of_z w32 z))) → x ≡ signed_permutation z
  signed_is e is = is ∙ rw (to_z-of_z fits) (natural_is z (natural e))

-- What is refused has no permutation, and the face that stands for it has the first.
none_or : (z : ℤ) {n p : ℕ} → signed_permutation z ≡ refused n p → signed_or z ≡ Xyz
unfolding signed_permutation answer
none_or (negsuc k) e = refl
none_or (pos k) e =
    split (leb (length permutations) k)
    (λ t. get_or-eq_default permutations Xyz (leb-true (length permutations) k t))
    (λ f. cc (passes (no_permutation k) [] (get_or permutations k Xyz) f))

-- ---- a face among twelve numbers

module _ (numbers : List ℤ) (k : ℕ) {x : Answer AxisPermutation} (fits : mag (number_at numbers k) < 2 ^ hbits w32)
    (read : x ≡ signed_permutation (to_z w32 (of_z w32 (number_at numbers k)))) where
  read_is : x ≡ signed_permutation (number_at numbers k)
  read_is = read ∙ ap signed_permutation (to_z-of_z {w = w32} (sfits_of {w = w32} {z = number_at numbers k} fits))

  -- The check of six faces goes on after a face that has a permutation, and stops at one that has none.
  module _ {t : Answer (Unit {0})} (left : checked (every 1 k (6 - k) (bad_number numbers)) ≡ t) (h : k < 6) where
    pub face_on : {p : AxisPermutation} → x ≡ accepted p → checked (every 1 (k + 1) (6 - (k + 1)) (bad_number numbers)) ≡ t
    unfolding signed_permutation answer
    face_on e = ask_on 1 (bad_number numbers) k k 6 left h (place_passes (no_signed (number_at numbers k)) k [] (accepts_checked (no_signed (number_at numbers k) ∷ []) (signed_or (number_at numbers k)) (sym read_is ∙ e)))

    pub face_stops : {m p : ℕ} → x ≡ refused m p → refused m k ≡ t
    unfolding signed_permutation
    face_stops e = ask_stops 1 (bad_number numbers) k k 6 left h (place_refuses (no_signed (number_at numbers k)) k [] (answer_refused _ _ (sym read_is ∙ e)))

  -- A face is made of its sign's bits and its permutation, or of the first where it has none.
  module _ (sign : mag (sign_at numbers k) < 2 ^ hbits w32) where
    pub face_is : {p : AxisPermutation} → x ≡ accepted p → face (to_z w32 (of_z w32 (sign_at numbers k))) p ≡ face_at numbers k
    unfolding signed_permutation face_at
    face_is e = rw (to_z-of_z (sfits_of {z = sign_at numbers k} sign), ← accepts_value _ _ (sym read_is ∙ e))

    pub face_none : {m p : ℕ} → x ≡ refused m p → face (to_z w32 (of_z w32 (sign_at numbers k))) Xyz ≡ face_at numbers k
    unfolding face_at
    face_none e = rw (to_z-of_z (sfits_of {z = sign_at numbers k} sign), none_or (number_at numbers k) (sym read_is ∙ e))

-- So it is where a permutation that is not given is the first.
pub face_or : (numbers : List ℤ) (k : ℕ) (r : Result AxisPermutation Refusal) → mag (number_at numbers k) < 2 ^ hbits w32
    → meaning r ≡ signed_permutation (to_z w32 (of_z w32 (number_at numbers k))) → mag (sign_at numbers k) < 2 ^ hbits w32
    → face (to_z w32 (of_z w32 (sign_at numbers k))) (result_unwrap_or r Xyz) ≡ face_at numbers k
face_or numbers k (Ok p) fits read sign = face_is numbers k fits read sign refl
face_or numbers k (Err e) fits read sign = face_none numbers k fits read sign refl
