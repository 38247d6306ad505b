-- The numbers of a text. Each has one byte after it.
use Rattle.std.specs.Prelude.{ℕ, ◌+◌, ◌-◌, ◌*◌, ◌%◌, ◌^◌, Bool, true, false, ◌&&◌, ◌==◌, nat_le, if◌then◌else◌, Option, Some, None, is_some, List, [], ◌∷◌, length, fold, filter_map, take_while, drop}
use Rattle.calls.specs.declared.given.Notation.{Notation}
use Rattle.calls.specs.declared.given.Notation.TheVariants.{Decimal, Hexadecimal}

-- What a byte is as a digit of base 10 or 16: 0 to 9, and of base 16 a to f.
abbrev pub digit : ℕ → ℕ → Option ℕ
digit base b =
    if nat_le 48 b && nat_le b 57 then Some (b - 48)
    else if (base == 16) && (nat_le 97 b && nat_le b 102) then Some (b - 87)
    else None

-- Whether a byte is a digit.
abbrev pub is_digit : ℕ → ℕ → Bool
is_digit base b = is_some (digit base b)

-- The number that digits spell.
unfoldable pub numeral : ℕ → List ℕ → ℕ
numeral base ds = fold (λ n d. n * base + d) 0 (filter_map (digit base) ds)

-- The digits that a text begins with, as a number of 32 bits; and the text past the byte after them.
unfoldable pub unsigned : ℕ → List ℕ → ℕ × List ℕ
unsigned base text = let ds = take_while (is_digit base) text in (numeral base ds % 2 ^ 32, drop (length ds + 1) text)

-- A number that a minus stands before, as 32 bits have it.
abbrev pub negated : ℕ × List ℕ → ℕ × List ℕ
negated n = ((2 ^ 32 - n.0) % 2 ^ 32, n.1)

-- Whether an x stands before digits of base 16.
abbrev pub is_hexadecimal : Notation → Bool
is_hexadecimal Decimal = false
is_hexadecimal Hexadecimal = true

-- Whether a text begins with a byte.
abbrev pub begins : ℕ → List ℕ → Bool
begins byte [] = false
begins byte (b ∷ text) = b == byte

-- The number that a text begins with, and the text past the byte after it.
unfoldable pub number : Notation → List ℕ → ℕ × List ℕ
number notation text =
    if begins 45 text then negated (unsigned 10 (drop 1 text))
    else if is_hexadecimal notation && begins 120 text then unsigned 16 (drop 1 text)
    else unsigned 10 text
