-- Decimal numbers as bytes, and what the formatter leaves of the scratch that it is lent: document 02, request 1. "Decimal numbers have no leading zeros, and the digits come back as the written part of the caller's scratch."
use Rattle.std.specs.Prelude.{true, false, List, [], ◌∷◌, ◌++◌, ℕ, zero, suc, ◌+◌, ◌-◌, ◌*◌, ◌/◌, ◌%◌, ◌≤◌, ltb, leb, length}
use Rattle.listing.specs.Listing.{overwritten}

-- ---- numbers

-- The byte of a digit: `0` is 48, and the others follow it.
abbrev pub glyph : ℕ → ℕ
glyph d = 48 + d

-- A byte is a digit's.
abbrev pub IsDigit : ℕ → Type 0
IsDigit byte = (48 ≤ byte) × (byte ≤ 57)

-- The digits of a number, at most so many: a number below 10 is one digit, and any other has those of its tenth and then its last. So a zero comes first in 0 alone: "no leading zeros".
unfoldable pub digits_within : ℕ → ℕ → List ℕ
digits_within zero n = []
digits_within (suc most) n = elim (ltb n 10) [ true ↦ glyph n ∷ [] | false ↦ digits_within most (n / 10) ++ (glyph (n % 10) ∷ []) ]

-- The decimal digits of a number, the highest first. No number n has more than n + 1, so this bound cuts nothing off.
unfoldable pub digits : ℕ → List ℕ
digits n = digits_within (n + 1) n

-- What digits say after a number: each takes what stands before it ten times.
unfoldable pub value_after : ℕ → List ℕ → ℕ
value_after n [] = n
value_after n (byte ∷ bytes) = value_after (n * 10 + (byte - 48)) bytes

-- The number that digits say.
abbrev pub value : List ℕ → ℕ
value bytes = value_after 0 bytes

-- ---- the caller's scratch

-- "the written part of the caller's scratch": the digits, where there is room for all of them. Else nothing is written, and "an empty part means 15, too short".
unfoldable pub part : ℕ → List ℕ → List ℕ
part n scratch = elim (leb (length (digits n)) (length scratch)) [ true ↦ digits n | false ↦ [] ]

-- The scratch afterwards: "filled from its start", "what isn't written stays", and so a scratch that is too short is "unchanged".
abbrev pub spelled : ℕ → List ℕ → List ℕ
spelled n scratch = overwritten (part n scratch) scratch

-- All that the formatter leaves: how many bytes it has written, and the scratch.
pub record Spelt : Type 0 where
  pub written : ℕ
  pub scratch : List ℕ

-- The number and the scratch.
abbrev pub spelt : ℕ → List ℕ → Spelt
spelt written scratch = record { written = written; scratch = scratch }

-- What it leaves of a number and a scratch.
abbrev pub spelling : ℕ → List ℕ → Spelt
spelling n scratch = spelt (length (part n scratch)) (spelled n scratch)
