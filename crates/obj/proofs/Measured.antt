-- How long the lines of a quad are, as they are measured before they are written: a line has its three numbers' digits and five bytes more, on each axis two of a quad's corners are where the first is and two where the last is, and its
-- triangles have the same vertex numbers on whichever face.
use mathlib.Core.Bool.{Bool, true, false}
use mathlib.Core.List.{List, [], ◌∷◌, ◌++◌, append_assoc, append-nil}
use mathlib.Core.Path.{◌≡◌, refl, sym, ◌∙◌, ap}
use Prim.Native.Nat.{ℕ, ◌+◌, ◌*◌, ◌^◌, ◌≤◌, ◌<◌}
use native.Mathlib.Nat.{add_comm, add_assoc}
use native.Mathlib.Omega.{arith}
use lib.IntN.{◌*ℤ◌}
use lib.ListN.{length, length-append}
use Rattle.geometry.specs.declared.axis.Axis.{Axis}
use Rattle.geometry.specs.declared.axis.Axis.TheVariants.{X, Y, Z}
use Rattle.geometry.specs.declared.quad.UnorientedQuad.{UnorientedQuad}
use Rattle.geometry.specs.declared.face.OrientedBlockFace.{OrientedBlockFace}
use Rattle.geometry.specs.declared.face.Corner.{Corner}
use Rattle.geometry.specs.declared.face.Corner.TheVariants.{MinuMinv, MaxuMinv, MinuMaxv, MaxuMaxv}
use Rattle.geometry.specs.Point.{along}
use Rattle.geometry.specs.Axes.{positive, permutation_sign}
use Rattle.geometry.specs.Corners.{corner}
use Rattle.geometry.specs.Vertices.{indices}
use Rattle.geometry.proofs.Frame.{frame}
use Rattle.geometry.proofs.Corners.{corner_n, corner_u, corner_v}
use Rattle.listing.specs.Listing.{joined}
use Rattle.digits.specs.Decimal.{digits}
use Rattle.digits.proofs.Digits.{decimal_holds}
use Rattle.writing.specs.Handed.{OrientedQuad}
use Rattle.obj.specs.Text.{space, line_feed, f, Line, spaced, bytes, corner_line, triangle_line, first_triangle, second_triangle, corner_lines, triangle_lines, bytes_of, quad_text}
use Rattle.obj.specs.Writer.{ended, line_of, point_places, triangles_long, on}
use Rattle.obj.proofs.Joined.{joined_append}

-- ---- a number

-- A 32-bit number has at most ten digits.
pub ten_digits : (n : ℕ) → n < 2 ^ 32 → length (digits n) ≤ 10
ten_digits n h = (decimal_holds n).few h

-- ---- a line

-- A number with a space after it, whatever follows in the line.
ended_on : (n : ℕ) (rest last : List ℕ) → (digits n ++ (space ∷ rest)) ++ last ≡ ended n space ++ (rest ++ last)
ended_on n rest last = append_assoc (digits n) (space ∷ rest) last ∙ sym (append_assoc (digits n) (space ∷ []) (rest ++ last))

-- A line of three numbers: they stand before their spaces and the line feed as well as after their spaces.
pub line_bytes : (letter a b c : ℕ) → bytes (record { letter = letter; numbers = a ∷ b ∷ c ∷ [] }) ≡ line_of (letter ∷ space ∷ []) a b c
unfolding bytes spaced
line_bytes letter a b c =
    let end : List ℕ = line_feed ∷ [] in
    let third : List ℕ = digits c ++ [] in
    let second : List ℕ = digits b ++ (space ∷ third) in
    ap (λ (l : List ℕ). letter ∷ space ∷ l)
    (ended_on a second end
    ∙ ap (λ (l : List ℕ). ended a space ++ l)
    (ended_on b third end ∙ ap (λ (l : List ℕ). ended b space ++ (l ++ end)) (append-nil (digits c))))

-- It has five bytes more than their digits.
line_long : (letter a b c : ℕ) → length (bytes (record { letter = letter; numbers = a ∷ b ∷ c ∷ [] })) ≡ 5 + (length (digits a) + length (digits b) + length (digits c))
line_long letter a b c =
    rw (line_bytes letter a b c)
    (omega (
      arith,
      length-append (ended a space) (ended b space ++ ended c line_feed),
      length-append (ended b space) (ended c line_feed),
      length-append (digits a) (space ∷ []),
      length-append (digits b) (space ∷ []),
      length-append (digits c) (line_feed ∷ []),
    ))

-- Lines have the first's bytes and those of the others.
lines_long : (l : Line) (ls : List Line) → length (bytes_of (l ∷ ls)) ≡ length (bytes l) + length (bytes_of ls)
unfolding joined
lines_long l ls = length-append (bytes l) (bytes_of ls)

no_lines : length (bytes_of []) ≡ 0
unfolding joined
no_lines = refl

-- ---- a quad's corners

module _ (face : OrientedBlockFace) (quad : UnorientedQuad) where
  -- A corner's coordinate on an axis.
  abbrev lies : Axis → Corner → ℕ
  lies a c = along a (corner face quad c)

  -- On any axis the two corners in the middle are where the first and the last are, in this order or the other: along n all are in one place, along u the second is where the last is, and along v the third is.
  in_the_middle : (g : ℕ → ℕ) (a : Axis) → g (lies a MaxuMinv) + g (lies a MinuMaxv) ≡ g (lies a MinuMinv) + g (lies a MaxuMaxv)
  in_the_middle g =
      (frame face.permutation).every (λ (a : Axis). g (lies a MaxuMinv) + g (lies a MinuMaxv) ≡ g (lies a MinuMinv) + g (lies a MaxuMaxv))
      (simp (corner_n face quad))
      (simp (corner_u face quad) (add_comm _ _))
      (simp (corner_v face quad))

  -- So have they as many digits.
  middle_places : point_places (corner face quad MaxuMinv) + point_places (corner face quad MinuMaxv) ≡ point_places (corner face quad MinuMinv) + point_places (corner face quad MaxuMaxv)
  unfolding along
  middle_places =
      let places : ℕ → ℕ = λ n. length (digits n) in
      omega (arith, in_the_middle places X, in_the_middle places Y, in_the_middle places Z)

  pub corners_long : length (bytes_of (corner_lines (on face quad))) ≡ 20 + 2 * (point_places (corner face quad MinuMinv) + point_places (corner face quad MaxuMaxv))
  corners_long =
      let line : Corner → Line = λ c. corner_line (corner face quad c) in
      let long : (c : Corner) → length (bytes (line c)) ≡ 5 + point_places (corner face quad c) = λ c. line_long _ _ _ _ in
      omega (
        arith,
        middle_places,
        no_lines,
        lines_long (line MinuMinv) (line MaxuMinv ∷ line MinuMaxv ∷ line MaxuMaxv ∷ []),
        lines_long (line MaxuMinv) (line MinuMaxv ∷ line MaxuMaxv ∷ []),
        lines_long (line MinuMaxv) (line MaxuMaxv ∷ []),
        lines_long (line MaxuMaxv) [],
        long MinuMinv,
        long MaxuMinv,
        long MinuMaxv,
        long MaxuMaxv,
      )

-- ---- its triangles

-- Two lines of triangles,
both_long : (a b c d e g : ℕ) → length (bytes_of (triangle_line (a ∷ b ∷ c ∷ []) ∷ triangle_line (d ∷ e ∷ g ∷ []) ∷ []))
    ≡ 10 + (length (digits a) + length (digits b) + length (digits c)) + (length (digits d) + length (digits e) + length (digits g))
both_long a b c d e g =
    let first : Line = triangle_line (a ∷ b ∷ c ∷ []) in
    let second : Line = triangle_line (d ∷ e ∷ g ∷ []) in
    omega (arith, no_lines, lines_long first (second ∷ []), lines_long second [], line_long f a b c, line_long f d e g)

-- and on whichever side of the face they wind, two of the four vertices stand in both.
wound_long : (positively : Bool) (s : ℕ) → length (bytes_of (triangle_line (first_triangle (indices positively s)) ∷ triangle_line (second_triangle (indices positively s)) ∷ []))
    ≡ 10 + length (digits (s + 1)) + 2 * length (digits (s + 2)) + 2 * length (digits (s + 3)) + length (digits (s + 4))
wound_long true s = rw (add_assoc s 1 1, add_assoc s 2 1, add_assoc s 3 1) (omega (arith, both_long (s + 1) (s + 2) (s + 3) (s + 2) (s + 4) (s + 3)))
wound_long false s = rw (add_assoc s 1 1, add_assoc s 2 1, add_assoc s 3 1) (omega (arith, both_long (s + 1) (s + 3) (s + 2) (s + 2) (s + 3) (s + 4)))

pub triangles_long_lem : (k : ℕ) (q : OrientedQuad) → length (bytes_of (triangle_lines k q)) ≡ triangles_long k
triangles_long_lem k q = wound_long (positive (q.face.n_sign *ℤ permutation_sign q.face.permutation)) (4 * k)

-- ---- all six lines

-- A quad's bytes are those of its corners and then those of its triangles,
pub quad_cut_in_two : (k : ℕ) (q : OrientedQuad) → quad_text k q ≡ bytes_of (corner_lines q) ++ bytes_of (triangle_lines k q)
unfolding quad_text
quad_cut_in_two k q = joined_append bytes (corner_lines q) (triangle_lines k q)

-- and so many.
pub quad_long : (k : ℕ) (q : OrientedQuad) → length (quad_text k q) ≡ length (bytes_of (corner_lines q)) + length (bytes_of (triangle_lines k q))
quad_long k q = ap length (quad_cut_in_two k q) ∙ length-append (bytes_of (corner_lines q)) (bytes_of (triangle_lines k q))
