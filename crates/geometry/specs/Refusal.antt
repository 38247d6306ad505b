-- Refusals: document 01, 'Refusal numbers'. "Checked in this order; the first that applies is given, with its place." The Rust has none.
-- A refusal at some input is a `Check`: its number, whether it applies, and its place. An order is a list of checks. A call answers the number and place of the first check of
-- its order that applies, and its value where none does (`answer`). The refusals and orders of every crate are said in these words.
use Rattle.std.specs.Prelude.{Bool, true, false, List, [], ◌∷◌, ℕ}

-- What a call answers: its value, or a refusal's number and place.
pub data Answer (A : Type 0) : Type 0 where
  accepted : A → Answer A
  refused : ℕ → ℕ → Answer A

-- A refusal at some input: its number, whether it applies, and its place.
pub record Check : Type 0 where
  pub number : ℕ
  pub applies : Bool
  pub place : ℕ

-- A check whose place is 0, as it is for all of geometry's.
abbrev pub at_place0 : ℕ → Bool → Check
at_place0 n b = record { number = n; applies = b; place = 0 }

-- A check at another place.
abbrev pub at_place : ℕ → Check → Check
at_place k c = record { number = c.number; applies = c.applies; place = k }

-- The first check of the list that applies refuses, with its number and place. Where none applies the value is given.
unfoldable pub answer : {A : Type 0} → List Check → A → Answer A
answer [] a = accepted a
answer (c ∷ cs) a = elim c.applies [ true ↦ refused c.number c.place | false ↦ answer cs a ]

-- Checks by themselves: where none applies there is nothing more to say.
abbrev pub checked : List Check → Answer (Unit {0})
checked cs = answer cs tt

-- An answer, and then another that is made with its value: a refusal stands.
abbrev pub and_then : {A B : Type 0} → Answer A → (A → Answer B) → Answer B
and_then (accepted a) next = next a
and_then (refused n p) next = refused n p

-- Checks, and then an answer: a refusal stands, and where nothing was refused the answer is given.
abbrev pub follow : {A : Type 0} → Answer (Unit {0}) → Answer A → Answer A
follow first second = and_then first (λ (passed : Unit {0}). second)
