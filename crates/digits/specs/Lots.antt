-- For private contracts: digits in lots of two and of four, zeros included.
use Rattle.std.specs.Prelude.{List, [], ◌∷◌, ◌++◌, ℕ, ◌/◌, ◌%◌}
use Rattle.digits.specs.Decimal.{glyph}

-- The two digits of a number below 100.
abbrev pub two_digits : ℕ → List ℕ
two_digits n = glyph (n / 10) ∷ glyph (n % 10) ∷ []

-- The four digits of a number below 10,000.
abbrev pub four_digits : ℕ → List ℕ
four_digits n = two_digits (n / 100) ++ two_digits (n % 100)
