-- Loops: what is made at a place, at the next place, and so on, is joined. Lists are joined end to end, numbers are summed, and what is done to a state is done one after another. The laws of all are one family (proofs/Loops.antt).
-- Scan order is three such loops (Extent.antt), and so are what the meshers' loops list, count, mark and scan.
use Rattle.std.specs.Prelude.{ℕ, zero, suc, ◌+◌, List, [], ◌++◌}

-- What `g` gives at p, at next p, at next (next p), .., n of them, joined.
unfoldable pub looped : {P B : Type 0} → B → (B → B → B) → (P → P) → (P → B) → P → ℕ → B
looped none join next g p zero = none
looped none join next g p (suc n) = join (g p) (looped none join next g (next p) n)

-- The number a stride on.
abbrev pub step_by : ℕ → ℕ → ℕ
step_by d i = i + d

-- The lists that `g` gives at a, a + d, a + 2·d, .., n of them, end to end.
abbrev pub every : {A : Type 0} → ℕ → ℕ → ℕ → (ℕ → List A) → List A
every d a n g = looped [] ◌++◌ (step_by d) g a n

-- The numbers that `g` gives at i, i + d, i + 2·d, .., n of them, summed.
abbrev pub summed : (ℕ → ℕ) → ℕ → ℕ → ℕ → ℕ
summed g d i n = looped 0 ◌+◌ (step_by d) g i n

-- Where a loop stands that counts a coordinate and an index.
pub record Stand : Type 0 where
  pub coordinate : ℕ
  pub index : ℕ

abbrev pub stand : ℕ → ℕ → Stand
stand a i = record { coordinate = a; index = i }

-- The next coordinate, and the index a stride on.
abbrev pub on_by : ℕ → Stand → Stand
on_by d p = stand (p.coordinate + 1) (p.index + d)

-- The lists that `g` gives at a coordinate and an index, at the next coordinate and the index a stride on, .., n of them, end to end.
abbrev pub in_step : {A : Type 0} → ℕ → (ℕ → ℕ → List A) → ℕ → ℕ → ℕ → List A
in_step d g a i n = looped [] ◌++◌ (on_by d) (λ (p : Stand). g p.coordinate p.index) (stand a i) n

-- One thing done to a state after another.
abbrev pub and_next : {S : Type 0} → (S → S) → (S → S) → S → S
and_next first next s = next (first s)

-- `act` at a coordinate and an index, at the next coordinate and the index a stride on, .., n times: what a loop does to its state.
abbrev pub steps : {S : Type 0} → ℕ → (S → ℕ → ℕ → S) → S → ℕ → ℕ → ℕ → S
steps {S} d act s a i n = looped (λ (s : S). s) and_next (on_by d) (λ (p : Stand) (s : S). act s p.coordinate p.index) (stand a i) n s
