-- Laws of the floats that geometry makes: which sizes are finite, and that a coordinate is a float exactly.
use mathlib.Core.Bool.{Bool, true, false, not, cond}
use mathlib.Core.Path.{◌≡◌, refl, sym}
use Prim.Native.Nat.{ℕ, zero, suc, ◌+◌, ◌*◌, ◌^◌, ◌≤◌, ◌<◌}
use native.Mathlib.Nat.{mul-one, lt_of_lt_of_le}
use native.Mathlib.Omega.{arith}
use lib.Dec.{T, ltb, le→leb, lit<, lit≤}
use lib.Pow.{shl_lt}
use lib.IntN.{ℤ, pos, ◌*ℤ◌}
use lib.Ieee.{Float, nan, inf, fin, Format, binary32, prec, emax, low, up, down, unlike, in_float, of_int, is_nan, odd, units, round, mul}
use lib.Ieee.Fits.{round_is}
use lib.Ieee.Exact.{HasValue, round_exact}
use mir.Syntax.{w32}
use mir.Val.{to_z, of_z}
use Rattle.geometry.specs.declared.axis.Axis.{Axis}
use Rattle.geometry.specs.declared.axis.Axis.TheVariants.{X, Y, Z}
use Rattle.std.specs.Float.{float_is_finite}
use Rattle.geometry.specs.Point.{unit_vector}
use Rattle.geometry.specs.Quad.{largest_axis}
use Rattle.geometry.specs.Checks.{not_finite, proper_sign}
use Rattle.geometry.specs.Axes.{minus_one}
use Rattle.geometry.specs.Face.{as_f32}
use Rattle.geometry.specs.Corners.{product}
use Rattle.geometry.proofs.Signs.{proper_elim}

-- A float is finite where the library says so.
pub finite : (x : Float) → not_finite x ≡ not (float_is_finite x)
unfolding not_finite float_is_finite
finite nan = refl
finite (inf s) = refl
finite (fin s m e) = refl

-- ---- what is cast

-- A coordinate up to the largest axis, and a side of a quad, may be cast: every whole number up to 2 ^ 24 may.
pub coordinate_exact : (k : ℕ) → k ≤ largest_axis → T (in_float binary32 (pos k))
unfolding in_float
coordinate_exact k h = le→leb k (2 ^ prec binary32) (omega arith)

-- And its f32 is that very number: finite, not negative, and k in size.
pub exact : (k : ℕ) → k ≤ largest_axis → HasValue (as_f32 (pos k)) false k 1
unfolding of_int
exact k h =
    let small : k < 2 ^ prec binary32 = omega arith in
    round_exact binary32 false k 1 k (low binary32) (lit< tt) small
    (lt_of_lt_of_le (shl_lt (prec binary32) (low binary32) small) (lit≤ tt))
    (sym (mul-one (k * 2 ^ low binary32)))

-- So is that of -1.
pub minus_one_exact : HasValue (as_f32 minus_one) true 1 1
unfolding of_int
minus_one_exact = (refl, refl)

-- Plus zero is the f32 of 0.
pub plus_zero : as_f32 (pos 0) ≡ fin false 0 (pos 0)
unfolding of_int
plus_zero = refl

-- A part of a signed normal: its bits are its own, and it is an f32 exactly.
pub part_exact : (k : ℕ) → k ≤ 1 → (s : ℤ) → proper_sign s ≡ true → (to_z w32 (of_z w32 (s *ℤ pos k)) ≡ s *ℤ pos k) × T (in_float binary32 (s *ℤ pos k))
unfolding in_float
part_exact zero h = proper_elim _ (refl, tt) (refl, tt)
part_exact (suc zero) h = proper_elim _ (refl, tt) (refl, tt)
part_exact (suc (suc k)) h = absurd (omega arith)

-- A unit vector's parts are 0 or 1.
pub unit_parts : (a : Axis) → ((unit_vector a).x ≤ 1) × ((unit_vector a).y ≤ 1) × ((unit_vector a).z ≤ 1)
unit_parts X = omega arith
unit_parts Y = omega arith
unit_parts Z = omega arith

-- ---- no position is NaN, so that its bits are fixed

cond_no_nan : (b : Bool) (x y : Float) → is_nan x ≡ false → is_nan y ≡ false → is_nan (cond b x y) ≡ false
cond_no_nan true x y h k = h
cond_no_nan false x y h k = k

odd_no_nan : (d : ℕ) (s : Bool) (q k l : ℕ) → is_nan (odd d s q k l) ≡ false
unfolding odd is_nan
odd_no_nan d s zero k l = refl
odd_no_nan d s (suc q) k l = refl

units_no_nan : (f : Format) (s : Bool) (q k : ℕ) → is_nan (units f s q k) ≡ false
unfolding units is_nan
units_no_nan f s q k =
    cond_no_nan (ltb (q * 2 ^ k) (2 ^ (low f + suc (emax f)))) (odd (suc (prec f)) s q k (low f)) (inf s)
    (odd_no_nan (suc (prec f)) s q k (low f)) refl

round_no_nan : (f : Format) (s : Bool) (num den : ℕ) → is_nan (round f s num den) ≡ false
round_no_nan f s num den = rw (round_is f s num den) (units_no_nan f s _ _)

-- The product of a finite float with one that has a value is no NaN.
product_finite : (x y : Float) (s : Bool) (a c : ℕ) → not_finite x ≡ false → HasValue y s a c → is_nan (mul binary32 x y) ≡ false
unfolding not_finite mul
product_finite nan y s a c h v = cc
product_finite (inf t) y s a c h v = cc
product_finite (fin t m e) nan s a c h v = absurd v
product_finite (fin t m e) (inf u) s a c h v = absurd v
product_finite (fin t m e) (fin u n d) s a c h v = round_no_nan binary32 (unlike t u) (m * up e * (n * up d)) (down e * down d)

-- So no product of a finite size and a coordinate up to the largest axis is one.
pub product_no_nan : (size : Float) → not_finite size ≡ false → (k : ℕ) → k ≤ largest_axis → is_nan (product size k) ≡ false
product_no_nan size h k l = product_finite size (as_f32 (pos k)) false k 1 h (exact k l)
