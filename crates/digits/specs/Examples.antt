-- Numbers spelled into scratches, worked out from document 02 apart from the rules. Each side of each row is computed (proofs/Examples.antt, `spellings_hold`).
use Rattle.std.specs.Prelude.{List, [], ◌∷◌, ◌≡◌, ℕ, replicate}
use Rattle.digits.specs.Decimal.{Spelt, spelt, spelling}

-- A number, a scratch, and what spelling the one into the other leaves.
pub record Spelling : Type 0 where
  pub number : ℕ
  pub scratch : List ℕ
  pub leaves : Spelt

abbrev pub Spells : Spelling → Type 0
Spells e = spelling e.number e.scratch ≡ e.leaves

-- A scratch of so many bytes, each a `z`.
abbrev pub zs : ℕ → List ℕ
zs long = replicate long 122

unfoldable pub spellings : List Spelling
spellings =
    -- 0 is one digit, and what isn't written stays.
    record { number = 0; scratch = zs 3; leaves = spelt 1 (48 ∷ 122 ∷ 122 ∷ []) } ∷
    -- No leading zeros, and none is lost: 100.
    record { number = 100; scratch = zs 4; leaves = spelt 3 (49 ∷ 48 ∷ 48 ∷ 122 ∷ []) } ∷
    -- 9 and 10 stand on both sides of a power of ten.
    record { number = 9; scratch = zs 2; leaves = spelt 1 (57 ∷ 122 ∷ []) } ∷
    record { number = 10; scratch = zs 2; leaves = spelt 2 (49 ∷ 48 ∷ []) } ∷
    -- A power of ten and the number before it, and every digit in its place.
    record { number = 9_999; scratch = zs 10; leaves = spelt 4 (57 ∷ 57 ∷ 57 ∷ 57 ∷ zs 6) } ∷
    record { number = 10_000; scratch = zs 10; leaves = spelt 5 (49 ∷ 48 ∷ 48 ∷ 48 ∷ 48 ∷ zs 5) } ∷
    record { number = 12_345_678; scratch = zs 12; leaves = spelt 8 (49 ∷ 50 ∷ 51 ∷ 52 ∷ 53 ∷ 54 ∷ 55 ∷ 56 ∷ zs 4) } ∷
    record { number = 12_345_678; scratch = zs 8; leaves = spelt 8 (49 ∷ 50 ∷ 51 ∷ 52 ∷ 53 ∷ 54 ∷ 55 ∷ 56 ∷ []) } ∷
    record { number = 99_999_999; scratch = zs 10; leaves = spelt 8 (57 ∷ 57 ∷ 57 ∷ 57 ∷ 57 ∷ 57 ∷ 57 ∷ 57 ∷ zs 2) } ∷
    record { number = 100_000_000; scratch = zs 10; leaves = spelt 9 (49 ∷ 48 ∷ 48 ∷ 48 ∷ 48 ∷ 48 ∷ 48 ∷ 48 ∷ 48 ∷ zs 1) } ∷
    -- The last vertex number that is ever written: its ten digits fill ten bytes,
    record { number = 4_294_967_292; scratch = zs 10; leaves = spelt 10 (52 ∷ 50 ∷ 57 ∷ 52 ∷ 57 ∷ 54 ∷ 55 ∷ 50 ∷ 57 ∷ 50 ∷ []) } ∷
    -- and in nine they don't fit: too short, unchanged.
    record { number = 4_294_967_292; scratch = zs 9; leaves = spelt 0 (zs 9) } ∷
    -- The largest number that can be asked for.
    record { number = 4_294_967_295; scratch = zs 10; leaves = spelt 10 (52 ∷ 50 ∷ 57 ∷ 52 ∷ 57 ∷ 54 ∷ 55 ∷ 50 ∷ 57 ∷ 53 ∷ []) } ∷
    record { number = 4_294_967_295; scratch = zs 11; leaves = spelt 10 (52 ∷ 50 ∷ 57 ∷ 52 ∷ 57 ∷ 54 ∷ 55 ∷ 50 ∷ 57 ∷ 53 ∷ 122 ∷ []) } ∷
    -- Nothing fits into no bytes, not even 0.
    record { number = 0; scratch = []; leaves = spelt 0 [] } ∷
    []
