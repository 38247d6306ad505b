-- Bytes that are written one after another, and the lines of a list.
use Rattle.std.proofs.Common.{arith, ◌≡◌, ℕ, ◌<◌, Bool, true, false, ◌==◌, nat_eq, codes, Option, Some, None, IfSome, List, [], ◌∷◌, ◌++◌, length, refl, sym, ap, ◌∙◌, append_assoc, add_comm, option_map}
use Rattle.std.proofs.lemmas.List.{append-nil}
use native.Mathlib.Numerals.{unary_clauses}
use Rattle.std.specs.Fmt.{option_append}
use Rattle.std.specs.List.{starts_with}
use Rattle.std.specs.Io.KnownBytes.{Appends}
use Rattle.calls.specs.Lines.{before, after, letter, given, Outcome, lines_from, line_written, all_written, written}

-- Bytes, and then others.
pub appends_both : (a b c : Option (List ℕ)) (x y : List ℕ) → Appends a b x → Appends b c y → Appends a c (x ++ y)
appends_both None b c x y p q = tt
appends_both (Some a) None c x y p q = absurd p
appends_both (Some a) (Some b) None x y p q = absurd q
appends_both (Some a) (Some b) (Some c) x y p q = q ∙ ap (λ l. l ++ y) p ∙ append_assoc a x y

-- None.
pub appends_none : (a : Option (List ℕ)) → Appends a a []
appends_none None = tt
appends_none (Some a) = sym (append-nil a)

-- Known bytes, and then others where both are known.
pub appends_known : (a b c x y : Option (List ℕ)) → IfSome x (Appends a b) → IfSome y (Appends b c) → IfSome (option_append x y) (Appends a c)
appends_known a b c None y p q = tt
appends_known a b c (Some x) None p q = tt
appends_known a b c (Some x) (Some y) p q = appends_both a b c x y p q

-- A comment, and its line's end.
pub comment_written : (outcome : Outcome) (text line : List ℕ) (a b c : Option (List ℕ))
    → line ≡ before 10 text → starts_with nat_eq line (codes "#") ≡ true
    → Appends a b line → Appends b c (codes "\n") → IfSome (line_written outcome text) (Appends a c)
unfolding line_written
comment_written outcome text line a b c cut comment p q =
    let comment' = rw cut at comment in
    let p' = rw cut at p in
    rw comment' (appends_both a b c (before 10 text) (codes "\n") p' q)

-- What comes out of a call, behind its line.
called_known : (a b c d e o : Option (List ℕ)) (line : List ℕ)
    → Appends a b line → Appends b c (codes " =") → IfSome o (Appends c d) → Appends d e (codes "\n")
    → IfSome (option_map (λ bs. line ++ codes " =" ++ bs ++ codes "\n") o) (Appends a e)
called_known a b c d e None line p q r s = tt
called_known a b c d e (Some bs) line p q r s =
    let ac = appends_both a b c line (codes " =") p q in
    let ad = appends_both a c d (line ++ codes " =") bs ac r in
    appends_both a d e (line ++ codes " =" ++ bs) (codes "\n") ad s

pub called_written : (outcome : Outcome) (text line : List ℕ) (a b c d e : Option (List ℕ))
    → line ≡ before 10 text → starts_with nat_eq line (codes "#") ≡ false
    → Appends a b line → Appends b c (codes " =") → IfSome (outcome (letter text) (given text)) (Appends c d) → Appends d e (codes "\n")
    → IfSome (line_written outcome text) (Appends a e)
unfolding line_written
called_written outcome text line a b c d e cut called p q r s =
    let called' = rw cut at called in
    let p' = rw cut at p in
    rw called' (called_known a b c d e (outcome (letter text) (given text)) (before 10 text) p' q r s)

-- Past a line's first byte: where that does not end the line, the next line starts where the line ends.
first_past : (b : ℕ) (text : List ℕ) → lines_from false text ≡ lines_from true (after 10 text)
    → (ends : Bool) → (b == 10) ≡ ends → lines_from (b == 10) text ≡ lines_from true (after 10 (b ∷ text))
first_past b text past true h = rw h refl
first_past b text past false h = rw h (simp unary_clauses (rw add_comm past))

lines_past : (text : List ℕ) → lines_from false text ≡ lines_from true (after 10 text)
lines_past [] = refl
lines_past (b ∷ text) = first_past b text (lines_past text) (b == 10) refl

-- A text that has lines: the first, and those past it.
pub written_next : (outcome : Outcome) (text : List ℕ) → 0 < length text
    → written outcome text ≡ option_append (line_written outcome text) (written outcome (after 10 text))
unfolding written
written_next outcome [] some = absurd (omega arith)
written_next outcome (b ∷ text) some =
    ap (λ l. option_append (line_written outcome (b ∷ text)) (all_written outcome l)) (first_past b text (lines_past text) (b == 10) refl)

-- Where no text is left nothing more is written.
pub written_end : (outcome : Outcome) (text : List ℕ) (a : Option (List ℕ)) → length text ≡ 0 → IfSome (written outcome text) (Appends a a)
unfolding written
written_end outcome [] a none = appends_none a
written_end outcome (b ∷ text) a none = absurd (omega arith)

-- A line, and what is left: what comes behind the line stands behind all that came before it.
pub line_then : (outcome : Outcome) (a b : Option (List ℕ)) (text rest : List ℕ) (Whole : Option (List ℕ) → Type 0)
    → 0 < length text → rest ≡ after 10 text
    → ((new : Option (List ℕ)) → IfSome (written outcome text) (Appends a new) → Whole new)
    → IfSome (line_written outcome text) (Appends a b)
    → (new : Option (List ℕ)) → IfSome (written outcome rest) (Appends b new) → Whole new
line_then outcome a b text rest Whole some past before line new left =
    let left' = rw past at left in
    let all = appends_known a b new (line_written outcome text) (written outcome (after 10 text)) line left' in
    before new (rw (written_next outcome text some) all)
