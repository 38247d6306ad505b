-- Laws of numbers in bytes, for any number of bytes: what is written is read again, and what is read is written again.
use mathlib.Core.List.{List, [], ◌∷◌, ◌++◌}
use mathlib.Core.Path.{◌≡◌, refl, ap}
use Prim.Native.Nat.{ℕ, zero, suc, ◌+◌, ◌*◌, ◌/◌, ◌%◌, ◌≤◌, ◌<◌, ◌^◌}
use native.Mathlib.Nat.{pow-suc, not-suc-le-zero}
use native.Mathlib.Omega.{arith}
use lib.ListN.{length, get_or, take}
use Rattle.std.specs.Int.{w32, to_le_bytes}
use Rattle.geometry.specs.Lists.{Each}
use Rattle.saved.specs.Bytes.{Bytes, written, number, written32, number32}

-- A number has as many bytes as it is written in,
pub written_length : (k n : ℕ) → length (written k n) ≡ k
unfolding written
written_length zero n = refl
written_length (suc k) n = ap suc (written_length k (n / 256))

-- and each is a byte.
pub written_bytes : (k n : ℕ) → Bytes (written k n)
unfolding written Each
written_bytes zero n = tt
written_bytes (suc k) n = (omega arith, written_bytes k (n / 256))

-- A number that fits is read as it was written, whatever follows.
pub number_written : (k n : ℕ) (rest : List ℕ) → n < 256 ^ k → number k (written k n ++ rest) ≡ n
unfolding number written
number_written zero n rest h = omega arith
number_written (suc k) n rest h =
    let fits : n < 256 ^ k * 256 = rw pow-suc at h in
    rw (number_written k (n / 256) rest (omega arith)) (omega arith)

-- A number that is read fits,
pub number_fits : (k : ℕ) (l : List ℕ) → Bytes l → number k l < 256 ^ k
unfolding number Each
number_fits zero l h = omega arith
number_fits (suc k) [] h = rw pow-suc (omega (arith, number_fits k [] tt))
number_fits (suc k) (b ∷ l) h = rw pow-suc (omega (arith, h.0, number_fits k l h.1))

-- and is written as it was read.
pub written_number : (k : ℕ) (l : List ℕ) → Bytes l → k ≤ length l → written k (number k l) ≡ take k l
unfolding number written Each
written_number zero l h long = refl
written_number (suc k) [] h long = absurd (not-suc-le-zero long)
written_number (suc k) (b ∷ l) h long =
    let low : (b + 256 * number k l) % 256 ≡ b = omega (arith, h.0) in
    let high : (b + 256 * number k l) / 256 ≡ number k l = omega (arith, h.0) in
    rw (low, high, written_number k l h.1 (omega arith))

-- What follows the bytes of a number is not read.
pub number_longer : (k : ℕ) (l rest : List ℕ) → k ≤ length l → number k (l ++ rest) ≡ number k l
unfolding number
number_longer zero l rest h = refl
number_longer (suc k) [] rest h = absurd (not-suc-le-zero h)
number_longer (suc k) (b ∷ l) rest h = rw (number_longer k l rest (omega arith))

-- ---- 32-bit numbers, byte by byte

-- The number of four bytes.
pub number_of_four : (bytes : List ℕ) → 4 ≤ length bytes → number32 bytes ≡ get_or bytes 0 0 + 256 * get_or bytes 1 0 + 65_536 * get_or bytes 2 0 + 16_777_216 * get_or bytes 3 0
unfolding number
number_of_four [] h = absurd (omega arith)
number_of_four (a ∷ []) h = absurd (omega arith)
number_of_four (a ∷ b ∷ []) h = absurd (omega arith)
number_of_four (a ∷ b ∷ c ∷ []) h = absurd (omega arith)
number_of_four (a ∷ b ∷ c ∷ d ∷ l) h = omega arith

-- Its four bytes.
pub four_bytes : (n : ℕ) → to_le_bytes w32 n ≡ written32 n
unfolding written
four_bytes n =
    let third : n / 256 / 256 % 256 ≡ n / 65_536 % 256 = omega arith in
    let fourth : n / 256 / 256 / 256 % 256 ≡ n / 16_777_216 % 256 = omega arith in
    rw (third, fourth)
