-- Laws of permutations and signed axes.
use mathlib.Core.Bool.{Bool, true, false}
use mathlib.Core.List.{[]}
use mathlib.Core.Path.{◌≡◌, refl, sym, ◌∙◌, ap}
use Prim.Native.Nat.{ℕ, ◌≤◌}
use lib.IntN.{ℤ, pos}
use mir.Syntax.{w32}
use mir.Val.{SFits}
use borrow.Author.Tests.{le-leb}
use Rattle.geometry.specs.declared.vector.IVec3.{IVec3}
use Rattle.geometry.specs.declared.axis.Axis.{Axis}
use Rattle.geometry.specs.declared.axis.Axis.TheVariants.{X, Y, Z}
use Rattle.geometry.specs.declared.axis.AxisPermutation.{AxisPermutation}
use Rattle.geometry.specs.declared.axis.AxisPermutation.TheVariants.{Xyz, Zxy, Yzx, Zyx, Xzy, Yxz}
use Rattle.geometry.specs.declared.axis.SignedAxis.{SignedAxis}
use Rattle.geometry.specs.declared.axis.SignedAxis.TheVariants.{NegX, PosX, NegY, PosY, NegZ, PosZ}
use Rattle.geometry.specs.Checks.{proper_sign}
use Rattle.geometry.specs.Refusal.{Answer, accepted, refused, answer}
use Rattle.geometry.specs.Axes.{same, positive, permutation_sign, signum, permutation_number, permutation_of, no_permutation, toward, zero_sign, signed_axis_of_sign, nonzero_parts, only_part, signed_axis_of_vector}
use Rattle.geometry.proofs.Refusals.{applies, passes}
use Rattle.geometry.proofs.Signs.{proper_fits}

-- A permutation's number leads back to it.
pub number_back : (p : AxisPermutation) → permutation_of (permutation_number p) ≡ accepted p
unfolding permutation_of answer
number_back Xyz = refl
number_back Zxy = refl
number_back Yzx = refl
number_back Zyx = refl
number_back Xzy = refl
number_back Yxz = refl

-- So the number of a permutation gives it.
pub number_is : (p : AxisPermutation) {k : ℕ} → k ≡ permutation_number p → accepted p ≡ permutation_of k
number_is p e = sym (ap permutation_of e ∙ number_back p)

-- From 6 on there is none.
pub number_none : {k : ℕ} → 6 ≤ k → refused 17 0 ≡ permutation_of k
unfolding permutation_of
number_none {k} h = sym (applies (no_permutation k) [] _ (le-leb 6 k h))

module _ (s : ℤ) (a : Axis) where
  -- A signed axis from sign 0 is refused,
  pub no_signed_axis : same s (pos 0) ≡ true → signed_axis_of_sign s a ≡ refused 10 0
  unfolding signed_axis_of_sign
  no_signed_axis e = applies (zero_sign s) [] _ e

  -- and from any other it is made.
  pub signed_axis_made : same s (pos 0) ≡ false → signed_axis_of_sign s a ≡ accepted (toward (positive s) a)
  unfolding signed_axis_of_sign answer
  signed_axis_made e = passes (zero_sign s) [] _ e

-- ---- vectors

-- The Rust's own match on a vector, by which of its parts are zero (axis.rs 180 to 185).
abbrev pub matched : Bool → Bool → Bool → IVec3 → Answer SignedAxis
matched x true true v = signed_axis_of_sign v.x X
matched true false true v = signed_axis_of_sign v.y Y
matched true true false v = signed_axis_of_sign v.z Z
matched false false true v = refused 11 0
matched false true false v = refused 11 0
matched x false false v = refused 11 0

-- The rule is that match, whichever parts are zero.
pub vector_matched : (v : IVec3) (x y z : Bool) → same v.x (pos 0) ≡ x → same v.y (pos 0) ≡ y → same v.z (pos 0) ≡ z → signed_axis_of_vector v ≡ matched x y z v
unfolding signed_axis_of_vector signed_axis_of_sign nonzero_parts only_part answer
vector_matched v true true true ex ey ez = simp (ex, ey, ez, only_part)
vector_matched v true true false ex ey ez = simp (ex, ey, ez, only_part)
vector_matched v true false true ex ey ez = simp (ex, ey, ez, only_part)
vector_matched v true false false ex ey ez = simp (ex, ey, ez, only_part)
vector_matched v false true true ex ey ez = simp (ex, ey, ez, only_part)
vector_matched v false true false ex ey ez = simp (ex, ey, ez, only_part)
vector_matched v false false true ex ey ez = simp (ex, ey, ez, only_part)
vector_matched v false false false ex ey ez = simp (ex, ey, ez, only_part)

-- ---- signs

-- A permutation's sign is proper.
pub permutation_proper : (p : AxisPermutation) → proper_sign (permutation_sign p) ≡ true
unfolding proper_sign same
permutation_proper Xyz = refl
permutation_proper Zxy = refl
permutation_proper Yzx = refl
permutation_proper Zyx = refl
permutation_proper Xzy = refl
permutation_proper Yxz = refl

-- A signed axis' sign is proper,
axis_proper : (a : SignedAxis) → proper_sign (signum a) ≡ true
unfolding proper_sign same
axis_proper NegX = refl
axis_proper PosX = refl
axis_proper NegY = refl
axis_proper PosY = refl
axis_proper NegZ = refl
axis_proper PosZ = refl

-- and so fits.
pub sign_fits : (a : SignedAxis) → SFits w32 (signum a)
sign_fits a = proper_fits _ (axis_proper a)
