-- Laws of face bytes as the code makes and takes them: what it tests of a byte or of a sign is what the definitions say, and the loop over six bytes asks what they ask.
use mathlib.Core.Bool.{true, false}
use mathlib.Core.List.{List, [], ◌∷◌}
use mathlib.Core.Path.{◌≡◌, sym, ◌∙◌, ap}
use Prim.Native.Nat.{ℕ, ◌+◌, ◌-◌, ◌≤◌, ◌<◌}
use native.Mathlib.Omega.{arith}
use lib.ListN.{length, get_or, take, drop, drop_of_length-le, get_or-eq_default}
use borrow.Author.Tests.{lt-ltb, le-ltb, leb-true}
use Rattle.std.specs.Result.{result_unwrap_or}
use Rattle.std.specs.declared.result.Result.{Result}
use Rattle.std.specs.declared.result.Result.TheVariants.{Ok, Err}
use Rattle.geometry.specs.declared.axis.AxisPermutation.{AxisPermutation}
use Rattle.geometry.specs.declared.axis.AxisPermutation.TheVariants.{Xyz}
use Rattle.geometry.specs.declared.face.OrientedBlockFace.{OrientedBlockFace}
use Rattle.geometry.specs.declared.refusal.Refusal.{Refusal}
use Rattle.geometry.specs.Answers.{meaning}
use Rattle.geometry.specs.Refusal.{Answer, accepted, refused, answer, checked}
use Rattle.geometry.specs.Axes.{same, one, minus_one, permutations, permutation_number, no_permutation, permutation_of}
use Rattle.geometry.proofs.Refusals.{split, passes, accepts_value, accepts_checked, answer_refused, place_passes, place_refuses}
use Rattle.voxels.proofs.Asked.{drop_next}
use Rattle.saved.specs.Form.{face_byte, without_sign, sign_of, face_of}
use Rattle.saved.specs.Read.{bad_face_byte, bad_face_bytes_from}

-- ---- a face's byte

module _ (f : OrientedBlockFace) {n : ℕ} (is : n ≡ permutation_number f.permutation) where
  -- It is the permutation's number, with 8 more where the sign is -1,
  pub byte_minus : same f.n_sign minus_one ≡ true → n + 8 ≡ face_byte f
  unfolding face_byte
  byte_minus e = rw (e, is)

  -- and by itself where it is another.
  pub byte_plus : same f.n_sign minus_one ≡ false → n ≡ face_byte f
  unfolding face_byte
  byte_plus e = rw e (omega arith)

-- ---- a byte's face

module _ (b : ℕ) where
  -- A byte below 8 has no sign's 8,
  pub below_8 : b < 8 → b ≡ without_sign b
  unfolding without_sign
  below_8 h = rw (lt-ltb b 8 h, without_sign)

  -- and any other has.
  pub from_8 : 8 ≤ b → b - 8 ≡ without_sign b
  unfolding without_sign
  from_8 h = rw (le-ltb b 8 h, without_sign)

  -- The faces of the two.
  module _ {p : AxisPermutation} (is : p ≡ get_or permutations (without_sign b) Xyz) where
    pub face_below_8 : b < 8 → record { n_sign = one; permutation = p } ≡ face_of b
    unfolding face_of sign_of
    face_below_8 h = rw (lt-ltb b 8 h, is, sign_of)

    pub face_from_8 : 8 ≤ b → record { n_sign = minus_one; permutation = p } ≡ face_of b
    unfolding face_of sign_of
    face_from_8 h = rw (le-ltb b 8 h, is, sign_of)

  module _ {k : ℕ} (is : k ≡ without_sign b) where
    -- A permutation that is found is the byte's, and the byte passes;
    module _ {p : AxisPermutation} (found : permutation_of k ≡ accepted p) where
      permutation_found : p ≡ get_or permutations (without_sign b) Xyz
      unfolding permutation_of
      permutation_found = sym (accepts_value _ _ found) ∙ ap (λ (j : ℕ). get_or permutations j Xyz) is

      pub code_passes : accepted tt ≡ checked (bad_face_byte b ∷ [])
      unfolding permutation_of
      code_passes = sym (accepts_checked (no_permutation k ∷ []) _ found) ∙ ap (λ (j : ℕ). checked (no_permutation j ∷ [])) is

    -- and where none is found the byte is refused.
    module _ {n p : ℕ} (none : permutation_of k ≡ refused n p) where
      pub code_refused : refused n p ≡ checked (bad_face_byte b ∷ [])
      unfolding permutation_of
      code_refused = sym (answer_refused (no_permutation k ∷ []) _ none) ∙ ap (λ (j : ℕ). checked (no_permutation j ∷ [])) is

      permutation_none : Xyz ≡ get_or permutations (without_sign b) Xyz
      unfolding permutation_of answer
      permutation_none =
          split (no_permutation k).applies
          (λ t. sym (get_or-eq_default permutations Xyz (leb-true 6 k t)) ∙ ap (λ (j : ℕ). get_or permutations j Xyz) is)
          (λ f. cc (passes (no_permutation k) [] (get_or permutations k Xyz) f))

-- So what the code takes is the byte's.
pub permutation_or : (b : ℕ) {k : ℕ} → k ≡ without_sign b → (r : Result AxisPermutation Refusal) → meaning r ≡ permutation_of k → result_unwrap_or r Xyz ≡ get_or permutations (without_sign b) Xyz
permutation_or b is (Ok p) told = permutation_found b is (sym told)
permutation_or b is (Err e) told = permutation_none b is (sym told)

-- ---- some of them

-- The six bytes after section 0's count.
abbrev pub six : List ℕ → List ℕ
six bytes = take 6 (drop 4 bytes)

-- The loop that asks some bytes, one after another.
module _ (codes : List ℕ) (k : ℕ) {t : Answer (Unit {0})} (left : checked (bad_face_bytes_from k (drop k codes)) ≡ t) where
  byte_next : k < length codes → checked (record { number = 17; applies = (bad_face_byte (get_or codes k 0)).applies; place = k } ∷ bad_face_bytes_from (k + 1) (drop (k + 1) codes)) ≡ t
  unfolding bad_face_bytes_from
  byte_next h = rw (drop_next codes k 0 h) at left

  pub byte_on : k < length codes → checked (bad_face_byte (get_or codes k 0) ∷ []) ≡ accepted tt → checked (bad_face_bytes_from (k + 1) (drop (k + 1) codes)) ≡ t
  byte_on h e = sym (place_passes (bad_face_byte (get_or codes k 0)) k _ e) ∙ byte_next h

  pub byte_stops : {m p : ℕ} → k < length codes → checked (bad_face_byte (get_or codes k 0) ∷ []) ≡ refused m p → refused m k ≡ t
  byte_stops h e = sym (place_refuses (bad_face_byte (get_or codes k 0)) k _ e) ∙ byte_next h

  pub bytes_done : length codes ≤ k → accepted tt ≡ t
  unfolding bad_face_bytes_from answer
  bytes_done h = rw (drop_of_length-le codes {i = k} h) at left
