-- Digits in lots of two and of four: a number's digits are those of its hundredth and two more, or those of its ten thousandth and four more; and the same of a scratch that they are set in.
use mathlib.Core.List.{List, [], ◌∷◌, ◌++◌, append_assoc}
use mathlib.Core.Path.{◌≡◌, ◌∙◌, ap}
use Prim.Native.Nat.{ℕ, ◌+◌, ◌-◌, ◌*◌, ◌/◌, ◌%◌, ◌^◌, ◌≤◌, ◌<◌}
use native.Mathlib.Omega.{arith}
use lib.ListN.{length, set, length-append}
use Rattle.listing.specs.Listing.{overwritten}
use Rattle.listing.specs.Pushed.{set_all}
use Rattle.listing.proofs.Pushed.{set_all_after, set_all_append}
use Rattle.digits.specs.Decimal.{glyph, digits, spelt, spelling}
use Rattle.digits.specs.Lots.{two_digits, four_digits}
use Rattle.digits.proofs.Digits.{digits_one, digits_more, digits_at_most}
use Rattle.digits.proofs.Written.{spelled_fits}

-- ---- numbers

-- A number of two digits.
pub digits_two : (n : ℕ) → 10 ≤ n → n < 100 → digits n ≡ two_digits n
digits_two n least most = digits_more n least ∙ ap (λ (l : List ℕ). l ++ (glyph (n % 10) ∷ [])) (digits_one (n / 10) (omega arith))

-- One of three or more has two after its hundredth's,
pub digits_and_two : (n : ℕ) → 100 ≤ n → digits n ≡ digits (n / 100) ++ two_digits (n % 100)
digits_and_two n h =
    let high : n / 10 / 10 ≡ n / 100 = omega arith in
    let tens : n / 10 % 10 ≡ n % 100 / 10 = omega arith in
    let ones : n % 10 ≡ n % 100 % 10 = omega arith in
    let tenth : digits (n / 10) ≡ digits (n / 100) ++ (glyph (n % 100 / 10) ∷ []) = rw (high, tens) at (digits_more (n / 10) (omega arith)) in
    rw (ones, tenth) at (digits_more n (omega arith))
    ∙ append_assoc (digits (n / 100)) (glyph (n % 100 / 10) ∷ []) (glyph (n % 100 % 10) ∷ [])

-- and one of five or more has four after its ten thousandth's.
pub digits_and_four : (n : ℕ) → 10000 ≤ n → digits n ≡ digits (n / 10000) ++ four_digits (n % 10000)
digits_and_four n h =
    let high : n / 100 / 100 ≡ n / 10000 = omega arith in
    let hundreds : n / 100 % 100 ≡ n % 10000 / 100 = omega arith in
    let last : n % 100 ≡ n % 10000 % 100 = omega arith in
    let hundredth : digits (n / 100) ≡ digits (n / 10000) ++ two_digits (n % 10000 / 100) = rw (high, hundreds) at (digits_and_two (n / 100) (omega arith)) in
    rw (last, hundredth) at (digits_and_two n (omega arith))
    ∙ append_assoc (digits (n / 10000)) (two_digits (n % 10000 / 100)) (two_digits (n % 10000 % 100))

-- So a number of three digits,
pub digits_three : (n : ℕ) → 100 ≤ n → n < 1000 → digits n ≡ glyph (n / 100) ∷ two_digits (n % 100)
digits_three n least most = digits_and_two n least ∙ ap (λ (l : List ℕ). l ++ two_digits (n % 100)) (digits_one (n / 100) (omega arith))

-- and one of four.
pub digits_four : (n : ℕ) → 1000 ≤ n → n < 10000 → digits n ≡ four_digits n
digits_four n least most = digits_and_two n (omega arith) ∙ ap (λ (l : List ℕ). l ++ two_digits (n % 100)) (digits_two (n / 100) (omega arith) (omega arith))

-- Both bytes of a number below 100 as one number: its tens first,
pub pair_first : (n : ℕ) → n < 100 → (256 * n + 12336 - 2559 * (n * 103 / 1024)) % 256 ≡ glyph (n / 10)
pair_first n h =
    let tens : n * 103 / 1024 ≡ n / 10 = omega arith in
    rw tens (omega arith)

-- and then its ones.
pub pair_last : (n : ℕ) → n < 100 → (256 * n + 12336 - 2559 * (n * 103 / 1024)) / 256 ≡ glyph (n % 10)
pair_last n h =
    let tens : n * 103 / 1024 ≡ n / 10 = omega arith in
    rw tens (omega arith)

-- ---- a scratch

-- Set one after the other they are its two digits.
pub set_two : (n at : ℕ) (s : List ℕ) → n < 100 → set (set s at ((256 * n + 12336 - 2559 * (n * 103 / 1024)) % 256)) (at + 1) ((256 * n + 12336 - 2559 * (n * 103 / 1024)) / 256) ≡ set_all s at (two_digits n)
unfolding set_all
set_two n at s h = rw (pair_first n h, pair_last n h)

-- Two lots of two digits are one of four.
pub set_four : (n at : ℕ) (s : List ℕ) → set_all (set_all s at (two_digits (n / 100))) (at + 2) (two_digits (n % 100)) ≡ set_all s at (four_digits n)
set_four n at s = set_all_append s at (two_digits (n / 100)) (two_digits (n % 100))

-- Where the digits of a number's ten thousandth stand at the start, four more make them the number's.
module _ (n : ℕ) (s : List ℕ) (h : 10000 ≤ n) {count : ℕ} (many : count ≡ length (digits (n / 10000))) {t : List ℕ} (is : t ≡ set_all s 0 (digits (n / 10000))) where
  pub four_more : count + 4 ≡ length (digits n)
  four_more = rw (digits_and_four n h, length-append (digits (n / 10000)) (four_digits (n % 10000)), many)

  pub set_four_more : set_all t count (four_digits (n % 10000)) ≡ set_all s 0 (digits n)
  set_four_more =
      let place : count ≡ 0 + length (digits (n / 10000)) = omega arith in
      rw (is, place, digits_and_four n h) (set_all_append s 0 (digits (n / 10000)) (four_digits (n % 10000)))

-- Where there are ten bytes or more any 32-bit number's digits fit: set from the start they are what the formatter leaves.
pub spelled_set : (n count : ℕ) (s : List ℕ) {t : List ℕ} → n < 2 ^ 32 → 10 ≤ length s → count ≡ length (digits n) → t ≡ set_all s 0 (digits n) → spelt count t ≡ spelling n s
unfolding overwritten
spelled_set n count s small room many is =
    let fits : length (digits n) ≤ length s = omega (arith, digits_at_most 9 n (omega arith)) in
    spelled_fits n count s many (omega arith) (rw many (is ∙ set_all_after (digits n) [] s fits))
