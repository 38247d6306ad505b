-- A reader of such texts, so that a text can be said to mean its mesh: it is cut into lines at line feeds and a line into numbers at spaces, and a line's first byte says what its numbers are.
use Rattle.std.specs.Prelude.{true, false, List, [], ◌∷◌, map, ℕ, eqb, drop}
use Rattle.listing.specs.Listing.{joined}
use Rattle.digits.specs.Decimal.{value}
use Rattle.obj.specs.Text.{space, line_feed, v, f}

-- A byte put before the first of some parts.
abbrev pub before : ℕ → List (List ℕ) → List (List ℕ)
before byte [] = (byte ∷ []) ∷ []
before byte (part ∷ parts) = (byte ∷ part) ∷ parts

-- The parts of a text between separators: one more than there are of these.
unfoldable pub cut : ℕ → List ℕ → List (List ℕ)
cut separator [] = [] ∷ []
cut separator (byte ∷ text) = elim (eqb byte separator) [ true ↦ [] ∷ cut separator text | false ↦ before byte (cut separator text) ]

-- The numbers of a line that begins with a letter: what follows its spaces. A line that begins otherwise has none.
unfoldable pub line_numbers : ℕ → List ℕ → List ℕ
line_numbers letter [] = []
line_numbers letter (byte ∷ rest) = elim (eqb byte letter) [ true ↦ map value (drop 1 (cut space rest)) | false ↦ [] ]

-- The numbers of all such lines.
unfoldable pub numbers_under : ℕ → List ℕ → List ℕ
numbers_under letter text = joined (map (line_numbers letter) (cut line_feed text))

-- What a text says: the coordinates of its corners, three for each, and the vertex numbers of its triangles, three for each.
pub record Meaning : Type 0 where
  pub corners : List ℕ
  pub triangles : List ℕ

unfoldable pub meaning : List ℕ → Meaning
meaning text = record { corners = numbers_under v text; triangles = numbers_under f text }
