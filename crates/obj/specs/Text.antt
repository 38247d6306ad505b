-- The OBJ text of a mesh: document 02, first request. "the first line is always `o mesh`, then for each quad, in group and list order, four `v` lines with the integer corners and two `f` lines with the indices of
-- document 01 counted from 1; quad k (from 0) starts at index 4k. Decimal numbers have no leading zeros .. Lines end in one line feed." Between two numbers stands one space, and there is no other line. The Rust has no such text; its corners
-- and indices are geometry's.
use Rattle.std.specs.Prelude.{List, [], ◌∷◌, ◌++◌, map, ℕ, ◌+◌, ◌*◌, ◌*ℤ◌}
use Rattle.geometry.specs.declared.face.Corner.TheVariants.{MinuMinv, MaxuMinv, MinuMaxv, MaxuMaxv}
use Rattle.geometry.specs.declared.face.QuadIndices.{QuadIndices}
use Rattle.geometry.specs.Point.{Point}
use Rattle.geometry.specs.Axes.{positive, permutation_sign}
use Rattle.geometry.specs.Corners.{corner}
use Rattle.geometry.specs.Vertices.{indices}
use Rattle.listing.specs.Listing.{joined}
use Rattle.digits.specs.Decimal.{digits}
use Rattle.writing.specs.Handed.{OrientedQuad, numbered}

-- ---- lines

abbrev pub space : ℕ
space = 32

abbrev pub line_feed : ℕ
line_feed = 10

-- The letters that lines begin with.
abbrev pub v : ℕ
v = 118

abbrev pub f : ℕ
f = 102

-- A line has a letter and numbers.
pub record Line : Type 0 where
  pub letter : ℕ
  pub numbers : List ℕ

-- Numbers, one space before each.
unfoldable pub spaced : List ℕ → List ℕ
spaced [] = []
spaced (n ∷ ns) = space ∷ (digits n ++ spaced ns)

-- A line's bytes: "Lines end in one line feed."
unfoldable pub bytes : Line → List ℕ
bytes l = (l.letter ∷ spaced l.numbers) ++ (line_feed ∷ [])

-- ---- a quad

-- "the integer corners", in document 01's order: base, +u width, +v height, both.
abbrev pub four_corners : OrientedQuad → List Point
four_corners q = corner q.face q.quad MinuMinv ∷ corner q.face q.quad MaxuMinv ∷ corner q.face q.quad MinuMaxv ∷ corner q.face q.quad MaxuMaxv ∷ []

-- The three numbers of a corner.
abbrev pub coordinates : Point → List ℕ
coordinates p = p.x ∷ p.y ∷ p.z ∷ []

-- "the indices of document 01" of quad k, which "starts at index 4k".
abbrev pub indices_at : ℕ → OrientedQuad → QuadIndices
indices_at k q = indices (positive (q.face.n_sign *ℤ permutation_sign q.face.permutation)) (4 * k)

-- Those of its first triangle, "counted from 1",
abbrev pub first_triangle : QuadIndices → List ℕ
first_triangle i = (i.0.0 + 1) ∷ (i.1.0 + 1) ∷ (i.2.0 + 1) ∷ []

-- and of its second.
abbrev pub second_triangle : QuadIndices → List ℕ
second_triangle i = (i.3.0 + 1) ∷ (i.4.0 + 1) ∷ (i.5.0 + 1) ∷ []

-- A corner's line.
abbrev pub corner_line : Point → Line
corner_line p = record { letter = v; numbers = coordinates p }

-- A triangle's line.
abbrev pub triangle_line : List ℕ → Line
triangle_line numbers = record { letter = f; numbers = numbers }

-- The four lines of a quad's corners,
abbrev pub corner_lines : OrientedQuad → List Line
corner_lines q = map corner_line (four_corners q)

-- and the two of its triangles, where it is quad k.
abbrev pub triangle_lines : ℕ → OrientedQuad → List Line
triangle_lines k q = triangle_line (first_triangle (indices_at k q)) ∷ triangle_line (second_triangle (indices_at k q)) ∷ []

-- The six lines of quad k.
abbrev pub quad_lines : ℕ → OrientedQuad → List Line
quad_lines k q = corner_lines q ++ triangle_lines k q

-- ---- the text

-- The bytes of lines.
abbrev pub bytes_of : List Line → List ℕ
bytes_of lines = joined (map bytes lines)

-- `o mesh` and its line feed.
abbrev pub first_line : List ℕ
first_line = 111 ∷ 32 ∷ 109 ∷ 101 ∷ 115 ∷ 104 ∷ 10 ∷ []

-- The bytes of quad k.
unfoldable pub quad_text : ℕ → OrientedQuad → List ℕ
quad_text k q = bytes_of (quad_lines k q)

-- The text of a mesh.
unfoldable pub text : List OrientedQuad → List ℕ
text qs = first_line ++ numbered quad_text 0 qs
