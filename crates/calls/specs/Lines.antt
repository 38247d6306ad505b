-- The lines of a list, and what is written of each.
use Rattle.std.specs.Prelude.{ℕ, Bool, true, false, ◌==◌, nat_eq, codes, if◌then◌else◌, Option, Some, option_map, List, [], ◌∷◌, ◌++◌, drop, slice_get, replicate}
use Rattle.std.specs.List.{before_first, after_first, starts_with}
use Rattle.std.specs.Fmt.{option_append}

-- ---- a list

-- What stands in the bytes for a list before it is read.
unfoldable pub no_bytes : List ℕ
no_bytes = replicate 65536 0

-- ---- a line's call

-- What stands before the first byte of a kind, and past it: all and nothing where there is none.
abbrev pub before : ℕ → List ℕ → List ℕ
before stop text = before_first (λ b. b == stop) text

abbrev pub after : ℕ → List ℕ → List ℕ
after stop text = after_first (λ b. b == stop) text

-- The name of the call of the line that a text begins with, and all that stands behind it: what stands past the first `:` and the byte after it.
abbrev pub name : List ℕ → List ℕ
name text = drop 1 (after 58 text)

-- The letter that says which call it is.
abbrev pub letter : List ℕ → Option ℕ
letter text = slice_get (name text) 0

-- What the call is given: what stands past the name's first space.
abbrev pub given : List ℕ → List ℕ
given text = after 32 (name text)

-- ---- what is written

-- What comes out of a call, by its letter and what it is given, where that is known.
abbrev pub Outcome : Type 0
Outcome = Option ℕ → List ℕ → Option (List ℕ)

-- Of the line that a text begins with: the line and, where it is no comment, which begins with `#`, ` =` and what comes out of its call.
unfoldable pub line_written : Outcome → List ℕ → Option (List ℕ)
line_written outcome text =
    let line = before 10 text in
    if starts_with nat_eq line (codes "#") then Some (line ++ codes "\n")
    else option_map (λ bs. line ++ codes " =" ++ bs ++ codes "\n") (outcome (letter text) (given text))

-- The texts that begin with a line: what of a text stands from each line's start on. `starts` says whether a line starts with its first byte.
abbrev pub lines_from : Bool → List ℕ → List (List ℕ)
lines_from starts [] = []
lines_from true (b ∷ text) = (b ∷ text) ∷ lines_from (b == 10) text
lines_from false (b ∷ text) = lines_from (b == 10) text

-- Of several, one after another.
abbrev pub all_written : Outcome → List (List ℕ) → Option (List ℕ)
all_written outcome [] = Some []
all_written outcome (text ∷ texts) = option_append (line_written outcome text) (all_written outcome texts)

-- Of all lines of a list.
unfoldable pub written : Outcome → List ℕ → Option (List ℕ)
written outcome list = all_written outcome (lines_from true list)
