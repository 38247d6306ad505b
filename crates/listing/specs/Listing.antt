-- How groups of items are laid into a lent buffer: document 01, 'Refusal numbers', 9 and the paragraph on capacity. All meshers share it; an item has so many numbers in the one and so many in the
-- other. The Rust appends to vectors that grow, one a face (buffer.rs); "ours starts at zero".
use Rattle.std.specs.Prelude.{List, [], ◌∷◌, ◌++◌, map, ℕ, ◌/◌, ltb, length, take, drop}
use Rattle.geometry.specs.Refusal.{Answer, accepted, refused, Check, answer}

-- Lists end to end: of six groups this is the whole listing, "Groups lie end to end from the start".
unfoldable pub joined : {A : Type 0} → List (List A) → List A
joined [] = []
joined (l ∷ ls) = l ++ joined ls

-- A list written over the start of a buffer that is at least as long: nothing past it changes.
unfoldable pub overwritten : List ℕ → List ℕ → List ℕ
overwritten new old = new ++ drop (length new) old

-- "Capacity is the buffer's length divided by 5 (unit: 3), rounded down": how many items of so many numbers a buffer so long holds.
unfoldable pub capacity : ℕ → ℕ → ℕ
capacity numbers long = long / numbers

-- Refusal 9: "more quads than the output holds"; its place is "its capacity".
abbrev pub too_many : ℕ → ℕ → List Check
too_many quads capacity = record { number = 9; applies = ltb capacity quads; place = capacity } ∷ []

-- What laying leaves: the counts or refusal 9, and the buffer.
pub record Laid : Type 0 where
  pub answer : Answer (List ℕ)
  pub out : List ℕ

-- Groups of items, each of so many numbers, laid into a buffer. The answer has the groups' counts, unless it is 9. "After 9 the output holds the first quads of the listing up
-- to its capacity, and nothing beyond them has changed. After success nothing past the last quad has changed", and then the capacity is enough for the whole listing.
unfoldable pub lay : {A : Type 0} → ℕ → (A → List ℕ) → List (List A) → List ℕ → Laid
lay numbers numbers_of groups out =
    record {
      answer = answer (too_many (length (joined groups)) (capacity numbers (length out))) (map length groups);
      out = overwritten (joined (map numbers_of (take (capacity numbers (length out)) (joined groups)))) out;
    }

-- What a buffer holds at exit: "After 1 to 8 no buffer has changed." So where the entry checks refuse it is what it was, and where they pass it is what meshing made of it.
abbrev pub at_exit : Answer (Unit {0}) → List ℕ → List ℕ → List ℕ
at_exit (accepted u) made was = made
at_exit (refused n p) made was = was
