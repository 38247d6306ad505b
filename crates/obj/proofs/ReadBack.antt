-- Reading a text back gives its corners and its vertex numbers: no byte of a line is a line feed but its last, no digit is a space, and digits say their number.
use mathlib.Core.Bool.{true, false}
use mathlib.Core.List.{List, [], ◌∷◌, ◌++◌, map, append_assoc, append-nil}
use mathlib.Core.Path.{◌≡◌, refl, ◌∙◌, ap}
use Prim.Native.Nat.{ℕ, ◌+◌, ◌≤◌}
use native.Mathlib.Omega.{arith}
use lib.Dec.{eqb}
use lib.ListN.{drop}
use borrow.Author.Tests.{eq-eqb, ne_eqb}
use Rattle.geometry.specs.Lists.{Each}
use Rattle.geometry.proofs.Lists.{each_append, each_up}
use Rattle.geometry.proofs.Refusals.{split}
use Rattle.listing.specs.Listing.{joined}
use Rattle.digits.specs.Decimal.{IsDigit, digits, value}
use Rattle.digits.proofs.Digits.{digits_digits, value_digits}
use Rattle.writing.specs.Handed.{OrientedQuad, numbered}
use Rattle.obj.specs.Text.{space, line_feed, v, f, Line, spaced, bytes, quad_lines, bytes_of, quad_text, text}
use Rattle.obj.specs.Reader.{before, cut, line_numbers, numbers_under, meaning}
use Rattle.obj.specs.Statements.{corner_numbers, triangle_numbers, said}

-- ---- cutting

-- A byte is no separator.
abbrev Free : ℕ → ℕ → Type 0
Free separator byte = eqb byte separator ≡ false

module _ (separator : ℕ) where
  -- Bytes among which none separates are one part,
  cut_last : (a : List ℕ) → Each (Free separator) a → cut separator a ≡ a ∷ []
  unfolding cut Each
  cut_last [] free = refl
  cut_last (byte ∷ a) free = rw (free.0, cut) (ap (before byte) (cut_last a free.1))

  -- and before a separator they are the first.
  cut_first : (a b : List ℕ) → Each (Free separator) a → cut separator (a ++ (separator ∷ b)) ≡ a ∷ cut separator b
  unfolding cut Each
  cut_first [] b free = rw (eq-eqb separator separator refl, cut)
  cut_first (byte ∷ a) b free = rw (free.0, cut) (ap (before byte) (cut_first a b free.1))

-- A digit is neither a space nor a line feed.
digits_free : (separator : ℕ) → separator ≤ 47 → (n : ℕ) → Each (Free separator) (digits n)
digits_free separator low n =
    each_up IsDigit (Free separator) (λ byte is. let (least, most) = is in ne_eqb byte separator (λ e. omega arith)) (digits n) (digits_digits n)

-- Nor is there a line feed in a line's numbers.
spaced_free : (ns : List ℕ) → Each (Free line_feed) (spaced ns)
unfolding spaced Each
spaced_free [] = tt
spaced_free (n ∷ ns) = (refl, each_append (Free line_feed) (digits n) (spaced ns) (digits_free line_feed (omega arith) n) (spaced_free ns))

-- ---- a line

-- Numbers are cut at their spaces,
cut_spaced : (n : ℕ) (ns : List ℕ) → cut space (digits n ++ spaced ns) ≡ digits n ∷ map digits ns
unfolding spaced
cut_spaced n [] = rw (append-nil (digits n)) (cut_last space (digits n) (digits_free space (omega arith) n))
cut_spaced n (m ∷ ns) =
    cut_first space (digits n) (digits m ++ spaced ns) (digits_free space (omega arith) n)
    ∙ ap (λ (parts : List (List ℕ)). digits n ∷ parts) (cut_spaced m ns)

-- each part says its number,
values_read : (ns : List ℕ) → map value (map digits ns) ≡ ns
values_read [] = refl
values_read (n ∷ ns) = rw (value_digits n, values_read ns)

-- and so they are read back.
spaced_read : (ns : List ℕ) → map value (drop 1 (cut space (spaced ns))) ≡ ns
unfolding spaced cut
spaced_read [] = refl
spaced_read (n ∷ ns) = rw (cut_spaced n ns) (values_read (n ∷ ns))

module _ (letter : ℕ) where
  -- The numbers of a line with the letter, and none of another.
  unfoldable under : Line → List ℕ
  under l = elim (eqb l.letter letter) [ true ↦ l.numbers | false ↦ [] ]

  line_numbers_lem : (l : Line) → line_numbers letter (l.letter ∷ spaced l.numbers) ≡ under l
  unfolding line_numbers under
  line_numbers_lem l =
      split (eqb l.letter letter)
      (λ t. rw (t, line_numbers, under) (spaced_read l.numbers))
      (λ f. rw (f, line_numbers, under))

  -- A line begins with a letter and not with a line feed.
  abbrev Lettered : Line → Type 0
  Lettered l = Free line_feed l.letter

  -- Its numbers are read, and then those of what follows it.
  line_read : (l : Line) (rest : List ℕ) → Lettered l → numbers_under letter (bytes l ++ rest) ≡ under l ++ numbers_under letter rest
  unfolding numbers_under bytes joined Each
  line_read l rest begins =
      let line : List ℕ = l.letter ∷ spaced l.numbers in
      rw (append_assoc line (line_feed ∷ []) rest, cut_first line_feed line rest (begins, spaced_free l.numbers), line_numbers_lem l)

  lines_read : (ls : List Line) (rest : List ℕ) → Each Lettered ls → numbers_under letter (bytes_of ls ++ rest) ≡ joined (map under ls) ++ numbers_under letter rest
  unfolding joined Each
  lines_read [] rest each = refl
  lines_read (l ∷ ls) rest each =
      rw (append_assoc (bytes l) (bytes_of ls) rest, append_assoc (under l) (joined (map under ls)) (numbers_under letter rest))
      (line_read l (bytes_of ls ++ rest) each.0 ∙ ap (λ (ns : List ℕ). under l ++ ns) (lines_read ls rest each.1))

  -- ---- the text

  -- The numbers of a quad's lines.
  abbrev quad_numbers : ℕ → OrientedQuad → List ℕ
  quad_numbers k q = joined (map under (quad_lines k q))

  quads_read : (k : ℕ) (qs : List OrientedQuad) → numbers_under letter (numbered quad_text k qs) ≡ numbered quad_numbers k qs
  unfolding numbered quad_text numbers_under cut line_numbers joined Each
  quads_read k [] = refl
  quads_read k (q ∷ qs) =
      lines_read (quad_lines k q) (numbered quad_text (k + 1) qs) (refl, (refl, (refl, (refl, (refl, (refl, tt))))))
      ∙ ap (λ (ns : List ℕ). quad_numbers k q ++ ns) (quads_read (k + 1) qs)

-- Where the number does not matter it is quad by quad.
unnumbered : (g : OrientedQuad → List ℕ) (k : ℕ) (qs : List OrientedQuad) → numbered (λ (j : ℕ) (q : OrientedQuad). g q) k qs ≡ joined (map g qs)
unfolding numbered joined
unnumbered g k [] = refl
unnumbered g k (q ∷ qs) = ap (λ (l : List ℕ). g q ++ l) (unnumbered g (k + 1) qs)

-- The first line says no number, and the quads' lines say theirs.
module _ (qs : List OrientedQuad) where
  corners_read : numbers_under v (text qs) ≡ joined (map corner_numbers qs)
  unfolding text numbers_under cut line_numbers under joined
  corners_read = quads_read v 0 qs ∙ unnumbered corner_numbers 0 qs

  triangles_read : numbers_under f (text qs) ≡ numbered triangle_numbers 0 qs
  unfolding text numbers_under cut line_numbers under joined
  triangles_read = quads_read f 0 qs

  pub reads_back : meaning (text qs) ≡ said qs
  unfolding meaning said
  reads_back = rw (corners_read, triangles_read)
