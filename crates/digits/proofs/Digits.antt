-- Laws of decimal numbers: how a number's digits follow from those of its tenth, what they say, which bytes they are and how many, and that no other numeral says the same.
use mathlib.Core.List.{List, [], ◌∷◌, ◌++◌, append-nil, append_assoc}
use mathlib.Core.Path.{◌≡◌, refl, sym, ◌∙◌, ap}
use Prim.Native.Nat.{ℕ, zero, suc, ◌+◌, ◌-◌, ◌*◌, ◌/◌, ◌%◌, ◌^◌, ◌≤◌, ◌<◌}
use native.Mathlib.Nat.{div-lt_self, div-add-mod', mod-lt, div-lt_iff_lt-mul, le-div_iff_mul-le, not-suc-le-zero, pow-suc, one-le-pow}
use native.Mathlib.Numerals.{add-one}
use native.Mathlib.Omega.{arith}
use lib.Dec.{ltb}
use lib.ListN.{length, get_or, length-append, get_or-append}
use borrow.Author.Tests.{ltb-true, ltb-false, lt-ltb, le-ltb}
use Rattle.geometry.proofs.Refusals.{split}
use Rattle.geometry.specs.Lists.{Each}
use Rattle.geometry.proofs.Lists.{each_append}
use Rattle.digits.specs.Decimal.{glyph, IsDigit, digits_within, digits, value_after, value}
use Rattle.digits.specs.Statements.{Numeral, Decimal}

-- ---- a number and its tenth

-- A tenth is smaller, and a number from 10 on has one of at least 1.
tenth_smaller : (n : ℕ) → 10 ≤ n → n / 10 < n
tenth_smaller n h = div-lt_self (omega arith) (omega arith)

tenth_some : (n : ℕ) → 10 ≤ n → 1 ≤ n / 10
tenth_some n h = (le-div_iff_mul-le {k = 10} {x = 1} {y = n} (omega arith)).1 (omega arith)

-- Where one digit is allowed a number below 10 is that,
within_one : (most n : ℕ) → n < 10 → digits_within (suc most) n ≡ glyph n ∷ []
unfolding digits_within
within_one most n h = rw (lt-ltb n 10 h, digits_within)

-- and another has those of its tenth and one more.
within_more : (most n : ℕ) → 10 ≤ n → digits_within (suc most) n ≡ digits_within most (n / 10) ++ (glyph (n % 10) ∷ [])
unfolding digits_within
within_more most n h = rw (le-ltb n 10 h, digits_within)

-- However many digits are allowed, if they are more than the number they are its digits.
same_within : (a b n : ℕ) → n < a → n < b → digits_within a n ≡ digits_within b n
same_within zero b n h k = absurd (not-suc-le-zero h)
same_within (suc a) zero n h k = absurd (not-suc-le-zero k)
same_within (suc a) (suc b) n h k =
    split (ltb n 10)
    (λ t. let less = ltb-true n 10 t in rw (within_one a n less, within_one b n less))
    (λ f.
    let more = ltb-false n 10 f in
    let s = tenth_smaller n more in
    rw (within_more a n more, within_more b n more, same_within a b (n / 10) (omega arith) (omega arith)))

-- So a number below 10 is one digit,
pub digits_one : (n : ℕ) → n < 10 → digits n ≡ glyph n ∷ []
unfolding digits
digits_one n h = rw (add-one n) (within_one n n h)

-- and another has those of its tenth and one more.
pub digits_more : (n : ℕ) → 10 ≤ n → digits n ≡ digits (n / 10) ++ (glyph (n % 10) ∷ [])
unfolding digits
digits_more n h =
    let s = tenth_smaller n h in
    rw (add-one n, within_more n n h, same_within n (n / 10 + 1) (n / 10) s (omega arith))

-- What holds of numbers below 10, and of a number where it holds of its tenth, holds of every number.
by_tenths_within : (P : ℕ → Type 0) → ((n : ℕ) → n < 10 → P n) → ((n : ℕ) → 10 ≤ n → P (n / 10) → P n) → (most n : ℕ) → n < most → P n
by_tenths_within P one more zero n h = absurd (not-suc-le-zero h)
by_tenths_within P one more (suc most) n h =
    split (ltb n 10)
    (λ t. one n (ltb-true n 10 t))
    (λ f.
    let many = ltb-false n 10 f in
    let s = tenth_smaller n many in
    more n many (by_tenths_within P one more most (n / 10) (omega arith)))

pub by_tenths : (P : ℕ → Type 0) → ((n : ℕ) → n < 10 → P n) → ((n : ℕ) → 10 ≤ n → P (n / 10) → P n) → (n : ℕ) → P n
by_tenths P one more n = by_tenths_within P one more (n + 1) n (omega arith)

-- ---- what digits say

-- Digits after digits.
pub value_append : (n : ℕ) (a b : List ℕ) → value_after n (a ++ b) ≡ value_after (value_after n a) b
unfolding value_after
value_append n [] b = refl
value_append n (byte ∷ a) b = value_append (n * 10 + (byte - 48)) a b

-- A number's digits say that number.
pub value_digits : (n : ℕ) → value (digits n) ≡ n
unfolding value_after
value_digits =
    by_tenths (λ (n : ℕ). value (digits n) ≡ n)
    (λ n h. rw (digits_one n h) (omega arith))
    (λ n h e. rw (digits_more n h, value_append 0 (digits (n / 10)) (glyph (n % 10) ∷ []), e) (omega (arith, div-add-mod' n 10)))

-- ---- which bytes they are

-- Every byte is a digit's, 48 to 57.
pub digits_digits : (n : ℕ) → Each IsDigit (digits n)
unfolding Each
digits_digits =
    by_tenths (λ (n : ℕ). Each IsDigit (digits n))
    (λ n h. rw (digits_one n h) ((omega arith, omega arith), tt))
    (λ n h each.
    let less : n % 10 < 10 = mod-lt n (omega arith) in
    rw (digits_more n h) (each_append IsDigit (digits (n / 10)) (glyph (n % 10) ∷ []) each ((omega arith, omega arith), tt)))

-- There is one at least.
pub digits_some : (n : ℕ) → 1 ≤ length (digits n)
digits_some =
    by_tenths (λ (n : ℕ). 1 ≤ length (digits n))
    (λ n h. rw (digits_one n h) (omega arith))
    (λ n h some. rw (digits_more n h, length-append (digits (n / 10)) (glyph (n % 10) ∷ [])) (omega arith))

-- The first is 48, a zero, only of 0.
pub no_leading_zero : (n : ℕ) → get_or (digits n) 0 0 ≡ 48 → n ≡ 0
no_leading_zero =
    by_tenths (λ (n : ℕ). get_or (digits n) 0 0 ≡ 48 → n ≡ 0)
    (λ n h. rw (digits_one n h) (λ (e : 48 + n ≡ 48). omega arith))
    (λ n h tenth.
    rw (digits_more n h, get_or-append (digits (n / 10)) (glyph (n % 10) ∷ []) 0 0 (digits_some (n / 10)))
    (λ e. let zero-tenth = tenth e in omega (arith, tenth_some n h)))

-- ---- how many there are

-- One more than a number's tenth has.
pub length_more : (n : ℕ) → 10 ≤ n → length (digits n) ≡ length (digits (n / 10)) + 1
length_more n h = rw (digits_more n h, length-append (digits (n / 10)) (glyph (n % 10) ∷ []))

-- At most so many below that power of ten,
pub digits_at_most : (k n : ℕ) → n < 10 ^ suc k → length (digits n) ≤ suc k
digits_at_most zero n h = rw (digits_one n h) (omega arith)
digits_at_most (suc k) n h =
    split (ltb n 10)
    (λ t. rw (digits_one n (ltb-true n 10 t)) (omega arith))
    (λ f.
    let less : n < 10 ^ suc k * 10 = rw (pow-suc 10 (suc k)) at h in
    let tenth = digits_at_most k (n / 10) ((div-lt_iff_lt-mul {k = 10} {x = n} {y = 10 ^ suc k} (omega arith)).1 less) in
    rw (length_more n (ltb-false n 10 f)) (omega arith))

-- and more than so many from that power on.
pub digits_at_least : (k n : ℕ) → 10 ^ k ≤ n → suc k ≤ length (digits n)
digits_at_least zero n h = digits_some n
digits_at_least (suc k) n h =
    let more : 10 ^ k * 10 ≤ n = rw (pow-suc 10 k) at h in
    let tenth = digits_at_least k (n / 10) ((le-div_iff_mul-le {k = 10} {x = 10 ^ k} {y = n} (omega arith)).1 more) in
    rw (length_more n (omega (arith, one-le-pow k 10 (omega arith)))) (omega arith)

-- So many, then, between two powers of ten.
pub digits_between : (k n : ℕ) → 10 ^ k ≤ n → n < 10 ^ suc k → suc k ≡ length (digits n)
digits_between k n least most = omega (arith, digits_at_least k n least, digits_at_most k n most)

-- ---- no other numeral

-- A digit after a number is its last.
digits_after : (n byte : ℕ) → 1 ≤ n → IsDigit byte → digits (n * 10 + (byte - 48)) ≡ digits n ++ (byte ∷ [])
digits_after n byte some is =
    let tenth : (n * 10 + (byte - 48)) / 10 ≡ n = omega arith in
    let last : glyph ((n * 10 + (byte - 48)) % 10) ≡ byte = omega arith in
    rw (tenth, last) at (digits_more (n * 10 + (byte - 48)) (omega arith))

-- Digits that stand after a number from 1 on are the last of what they say then.
digits_append : (n : ℕ) (bytes : List ℕ) → 1 ≤ n → Each IsDigit bytes → digits (value_after n bytes) ≡ digits n ++ bytes
unfolding value_after Each
digits_append n [] some each = sym (append-nil (digits n))
digits_append n (byte ∷ bytes) some each =
    digits_append (n * 10 + (byte - 48)) bytes (omega arith) each.1
    ∙ ap (λ (l : List ℕ). l ++ bytes) (digits_after n byte some each.0)
    ∙ append_assoc (digits n) (byte ∷ []) bytes

-- A digit by itself is all of what it says.
digits_alone : (byte : ℕ) → IsDigit byte → digits (0 * 10 + (byte - 48)) ≡ byte ∷ []
digits_alone byte is =
    let same : glyph (0 * 10 + (byte - 48)) ≡ byte = omega arith in
    rw same at (digits_one (0 * 10 + (byte - 48)) (omega arith))

-- The digits of what a numeral says are that numeral.
pub digits_value : (bytes : List ℕ) → Numeral bytes → digits (value bytes) ≡ bytes
unfolding value_after Each
digits_value [] l = absurd (not-suc-le-zero l.some)
digits_value (byte ∷ []) l = digits_alone byte l.each.0
digits_value (byte ∷ next ∷ bytes) l =
    split (ltb 48 byte)
    (λ t.
    let more = ltb-true 48 byte t in
    digits_append (0 * 10 + (byte - 48)) (next ∷ bytes) (omega arith) l.each.1
    ∙ ap (λ (first : List ℕ). first ++ (next ∷ bytes)) (digits_alone byte l.each.0))
    (λ f.
    let less = ltb-false 48 byte f in
    let is = l.each.0 in
    let alone = l.first (omega arith) in
    let none : ⊥ = omega arith in
    absurd none)

-- ---- all of it

pub decimal_holds : (n : ℕ) → Decimal n
decimal_holds n =
    record {
      says = value_digits n;
      bytes = digits_digits n;
      first = no_leading_zero n;
      some = digits_some n;
      few = λ h. digits_at_most 9 n (omega arith);
      only = λ bytes l e. sym (digits_value bytes l) ∙ ap digits e;
    }
