-- Laws of signed tests: a machine compares the bits of two integers, and the rules the integers.
use mathlib.Core.Bool.{Bool, true, false, not}
use mathlib.Core.Path.{◌≡◌, refl, sym, ◌∙◌, ap}
use lib.IntN.{ℤ, pos, negsuc, ◌*ℤ◌}
use Prim.Native.Nat.{◌<◌, ◌^◌}
use borrow.Author.Rules.{rules, sfits_of}
use borrow.Author.Tests.{eqb-true, eq-eqb}
use mir.Syntax.{w32}
use lib.Signed.{mag, lt_z}
use mir.Val.{SFits, of_z, to_z, hbits}
use mir.Facts.{to_z-of_z}
use Rattle.geometry.specs.Axes.{same, one, minus_one, positive, negative}
use Rattle.geometry.specs.Checks.{proper_sign}
use Rattle.geometry.proofs.Refusals.{split}

-- An integer is the same as itself,
same_itself : (z : ℤ) → same z z ≡ true
unfolding same
same_itself (pos n) = eq-eqb n n refl
same_itself (negsuc n) = eq-eqb n n refl

-- and as no other.
same_true : (z k : ℤ) → same z k ≡ true → z ≡ k
unfolding same
same_true (pos m) (pos n) h = ap pos (eqb-true m n h)
same_true (pos m) (negsuc n) h = cc
same_true (negsuc m) (pos n) h = cc
same_true (negsuc m) (negsuc n) h = ap negsuc (eqb-true m n h)

-- Integers whose bits are equal are the same,
pub bits_equal : {z k : ℤ} → SFits w32 z → SFits w32 k → of_z w32 z ≡ of_z w32 k → same z k ≡ true
bits_equal {z} {k} fz fk e = rw (sym (to_z-of_z fz) ∙ ap (to_z w32) e ∙ to_z-of_z fk) (same_itself k)

-- and integers whose bits differ are not.
pub bits_differ : (z k : ℤ) → (of_z w32 z ≡ of_z w32 k → ⊥) → same z k ≡ false
bits_differ z k d = split (same z k) (λ t. absurd (d (ap (of_z w32) (same_true z k t)))) (λ f. f)

-- The same of zero, whose bits are 0.
pub zero_bits : (z : ℤ) → mag z < 2 ^ hbits w32 → of_z w32 z ≡ 0 → same z (pos 0) ≡ true
zero_bits z h e = bits_equal (sfits_of h) (search rules) e

pub nonzero_bits : (z : ℤ) → (of_z w32 z ≡ 0 → ⊥) → same z (pos 0) ≡ false
nonzero_bits z d = bits_differ z (pos 0) d

-- A face's sign is proper at 1: what refusal 6 asks.
pub proper_one : (s : ℤ) → same s one ≡ true → not (proper_sign s) ≡ false
unfolding proper_sign
proper_one s e = rw (e, proper_sign)

-- So it is at -1,
pub proper_minus_one : (s : ℤ) → same s minus_one ≡ true → not (proper_sign s) ≡ false
unfolding proper_sign
proper_minus_one s e = split (same s one) (λ t. simp t) (λ f. simp (f, e))

-- and at no other sign.
pub proper_neither : (s : ℤ) → same s one ≡ false → same s minus_one ≡ false → not (proper_sign s) ≡ true
unfolding proper_sign
proper_neither s e d = simp (e, d)

-- What holds of 1 and of -1 holds of every proper sign.
pub proper_elim : (P : ℤ → Type 0) → P one → P minus_one → (s : ℤ) → proper_sign s ≡ true → P s
unfolding proper_sign
proper_elim P p m s h =
    split (same s one)
    (λ t. rw (same_true s one t) p)
    (λ f. rw (same_true s minus_one (rw f at h)) m)

-- A proper sign fits an i32.
pub proper_fits : (s : ℤ) → proper_sign s ≡ true → SFits w32 s
proper_fits = proper_elim (SFits w32) (search rules) (search rules)

-- A test for a side, on the bits.
pub positive_bits : {b : Bool} (s : ℤ) → mag s < 2 ^ hbits w32 → lt_z (pos 0) (to_z w32 (of_z w32 s)) ≡ b → positive s ≡ b
positive_bits s h e = rw (to_z-of_z (sfits_of {z = s} h)) at e

-- And for the other side.
pub negative_bits : {b : Bool} (s : ℤ) → mag s < 2 ^ hbits w32 → lt_z (to_z w32 (of_z w32 s)) (pos 0) ≡ b → negative s ≡ b
negative_bits s h e = rw (to_z-of_z (sfits_of {z = s} h)) at e

-- The product of two proper signs fits.
pub signs_fit : (s t : ℤ) → proper_sign s ≡ true → proper_sign t ≡ true → SFits w32 (s *ℤ t)
signs_fit s t p q =
    proper_elim (λ (s : ℤ). SFits w32 (s *ℤ t))
    (proper_elim (λ (t : ℤ). SFits w32 (one *ℤ t)) (search rules) (search rules) t q)
    (proper_elim (λ (t : ℤ). SFits w32 (minus_one *ℤ t)) (search rules) (search rules) t q)
    s p
