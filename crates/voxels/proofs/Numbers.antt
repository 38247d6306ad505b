-- Laws of products and remainders that the machine's numbers ask for.
use Rattle.std.proofs.Common.{◌≡◌, ℕ, zero, ◌+◌, ◌*◌, ◌/◌, ◌%◌, ◌<◌, ◌≤◌, false, ltb, sym, ap, ◌∙◌, mul_assoc, div-lt_iff_lt-mul, add-mul, mul-le-mul, mul-zero, le-div_iff_mul-le, arith, ltb-false, ltb-true, le-ltb, lt-ltb}
use native.Mathlib.Nat.{mod-add-div, add-mul-mod_self_left, mod-add-mod, add-mod-mod}
use Rattle.geometry.proofs.Refusals.{split}
use Rattle.voxels.specs.Visible.{modulus}

-- A number, and the product of two, of 32 bits each, add up to less than 2 to the 64th.
pub wide_product : (a b c : ℕ) → a < modulus → b < modulus → c < modulus → c + a * b < modulus * modulus
wide_product a b c ha hb hc =
    let h : a * b ≤ 4_294_967_295 * 4_294_967_295 = mul-le-mul {n₂ = 4_294_967_295} {m₂ = 4_294_967_295} (omega arith) (omega arith) in
    omega arith

pub product_fits : (a b : ℕ) → a < modulus → b < modulus → a * b < modulus * modulus
product_fits a b ha hb = omega (arith, wide_product a b 0 ha hb (omega arith))

-- A remainder may be taken of a factor first.
pub mod_mul : (b c m : ℕ) → b % m * c % m ≡ b * c % m
mod_mul b c m =
    sym (add-mul-mod_self_left (b % m * c) m (b / m * c))
    ∙ ap (λ (n : ℕ). n % m) (ap (λ (n : ℕ). b % m * c + n) (sym (mul_assoc m (b / m) c)) ∙ sym (add-mul (b % m) (m * (b / m)) c) ∙ ap (λ (n : ℕ). n * c) (mod-add-div b m))

-- And of both parts of a sum.
pub mod_sum : (a b c m : ℕ) → (a % m + b % m * c) % m ≡ (a + b * c) % m
mod_sum a b c m =
    mod-add-mod a m (b % m * c) ∙ sym (add-mod-mod a (b % m * c) m) ∙ ap (λ (n : ℕ). (a + n) % m) (mod_mul b c m) ∙ add-mod-mod a (b * c) m

-- Fewer than a product, by a division that always fits.
pub fewer_than_product : (n z a : ℕ) → (z ≡ 0 → ⊥) → ltb (n / z) a ≡ ltb n (a * z)
fewer_than_product n z a some =
    let positive : zero < z = omega arith in
    split (ltb (n / z) a)
    (λ t. t ∙ sym (lt-ltb n (a * z) ((div-lt_iff_lt-mul positive).0 (ltb-true (n / z) a t))))
    (λ f. f ∙ sym (le-ltb n (a * z) ((le-div_iff_mul-le positive).0 (ltb-false (n / z) a f))))

-- Nothing is fewer than none.
pub none_fewer : (n a z : ℕ) → z ≡ 0 → false ≡ ltb n (a * z)
none_fewer n a z e = rw e (sym (le-ltb n (a * 0) (omega (arith, mul-zero a))))
