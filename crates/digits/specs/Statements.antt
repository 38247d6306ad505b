-- What is shown of decimal numbers, and of a scratch that one is spelled into. The proofs stand in proofs/Digits.antt and proofs/Written.antt.
use Rattle.std.specs.Prelude.{List, [], ◌≡◌, ℕ, ◌^◌, ◌≤◌, ◌<◌, length, get_or, take, drop}
use Rattle.geometry.specs.Lists.{Each}
use Rattle.digits.specs.Decimal.{IsDigit, digits, value, part, spelled}

-- A decimal numeral, whoever wrote it: digits, one at least, and a zero first only where it stands alone.
pub record Numeral (bytes : List ℕ) : Type 0 where
  pub each : Each IsDigit bytes
  pub some : 1 ≤ length bytes
  pub first : get_or bytes 0 0 ≡ 48 → length bytes ≡ 1

-- Of a number's digits (`decimal_holds`):
pub record Decimal (n : ℕ) : Type 0 where
  -- they read back: what they say is that number,
  pub says : value (digits n) ≡ n
  -- each is a digit's byte,
  pub bytes : Each IsDigit (digits n)
  -- the first is a zero's only of 0: "no leading zeros",
  pub first : get_or (digits n) 0 0 ≡ 48 → n ≡ 0
  -- there is one at least,
  pub some : 1 ≤ length (digits n)
  -- a 32-bit number has at most ten,
  pub few : n < 2 ^ 32 → length (digits n) ≤ 10
  -- and no other numeral says that number.
  pub only : (bytes : List ℕ) → Numeral bytes → value bytes ≡ n → bytes ≡ digits n

-- Of a scratch that a number is spelled into (`formatted_holds`):
pub record Formatted (n : ℕ) (scratch : List ℕ) : Type 0 where
  -- where the digits fit they are the part that is written,
  pub fits : length (digits n) ≤ length scratch → part n scratch ≡ digits n
  -- "an empty part means 15, too short",
  pub short : part n scratch ≡ [] → length scratch < length (digits n)
  -- and then it is "unchanged",
  pub unchanged : length scratch < length (digits n) → spelled n scratch ≡ scratch
  -- the scratch is "filled from its start",
  pub start : take (length (part n scratch)) (spelled n scratch) ≡ part n scratch
  -- and "what isn't written stays".
  pub stays : drop (length (part n scratch)) (spelled n scratch) ≡ drop (length (part n scratch)) scratch
