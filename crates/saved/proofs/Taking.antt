-- Laws of taking numbers and quads out of a file into an output: what is left to take, of the numbers and of the counts.
use mathlib.Core.List.{List, [], ◌∷◌, ◌++◌, map, append_assoc}
use mathlib.Core.Path.{◌≡◌, refl, sym, ◌∙◌, ap}
use Prim.Native.Nat.{ℕ, zero, suc, ◌+◌, ◌-◌, ◌*◌, ◌≤◌, ◌<◌}
use native.Mathlib.Nat.{zero-mul, add-mul}
use native.Mathlib.Omega.{arith}
use lib.ListN.{length, length-append}
use Rattle.listing.specs.Listing.{joined}
use Rattle.saved.specs.Bytes.{number32, read_all}
use Rattle.saved.specs.Form.{quad_size}
use Rattle.saved.specs.Read.{count_in, records_in, after_section, quad_in, quads_in, groups_in}
use Rattle.saved.proofs.Items.{read_length}
use Rattle.saved.proofs.Pieces.{quads_flat}
use Rattle.saved.proofs.Walking.{quads_are, quads_count, groups_next, groups_none}

-- ---- the quads of sections

joined_append : {A : Type 0} (l m : List (List A)) → joined (l ++ m) ≡ joined l ++ joined m
unfolding joined
joined_append [] m = refl
joined_append (a ∷ l) m = rw (joined_append l m) (sym (append_assoc a (joined l) (joined m)))

-- A listing has as many numbers as its quads have.
pub list_length : (numbers n : ℕ) (b : List ℕ) → length (joined (joined (groups_in numbers n b))) ≡ length (joined (groups_in numbers n b)) * numbers
unfolding groups_in joined quads_in
list_length numbers zero b = sym (zero-mul numbers)
list_length numbers (suc n) b =
    let records : List ℕ = records_in (quad_size numbers) b in
    let after : List ℕ = after_section (quad_size numbers) b in
    let rest : List (List ℕ) = joined (groups_in numbers n after) in
    rw (
      joined_append (quads_in numbers b) rest,
      quads_flat numbers (count_in b) records,
      length-append (read_all 4 number32 (count_in b * numbers) records) (joined rest),
      length-append (quads_in numbers b) rest,
      read_length (quad_size numbers) (quad_in numbers) (count_in b) records,
      read_length 4 number32 (count_in b * numbers) records,
      add-mul (count_in b) (length rest) numbers,
    )
    (omega (arith, list_length numbers n after))

-- What is left to take of six sections, where k are taken: their numbers, as they stand in an output, and their counts.
abbrev pub numbers_left : ℕ → ℕ → List ℕ → List ℕ
numbers_left numbers k b = joined (joined (groups_in numbers (6 - k) b))

abbrev pub counts_left : ℕ → ℕ → List ℕ → List ℕ
counts_left numbers k b = map length (groups_in numbers (6 - k) b)

module _ (numbers k : ℕ) (b : List ℕ) where
  module _ (h : k < 6) {n : ℕ} {records rest : List ℕ} (count : n ≡ count_in b) (are : records ≡ records_in (quad_size numbers) b) (is : rest ≡ after_section (quad_size numbers) b) where
    -- Of the section at hand, and of those after it,
    pub numbers_next : numbers_left numbers k b ≡ read_all 4 number32 (n * numbers) records ++ numbers_left numbers (k + 1) rest
    unfolding joined
    numbers_next =
        rw (count, are, is)
        (ap (λ (gs : List (List (List ℕ))). joined (joined gs)) (groups_next numbers k b h)
        ∙ joined_append (quads_in numbers b) (joined (groups_in numbers (6 - (k + 1)) (after_section (quad_size numbers) b)))
        ∙ ap (λ (l : List ℕ). l ++ numbers_left numbers (k + 1) (after_section (quad_size numbers) b)) (ap joined (quads_are numbers b) ∙ quads_flat numbers (count_in b) (records_in (quad_size numbers) b)))

    pub counts_next : counts_left numbers k b ≡ n ∷ counts_left numbers (k + 1) rest
    counts_next =
        rw (count, is)
        (ap (map length) (groups_next numbers k b h)
        ∙ ap (λ (m : ℕ). m ∷ counts_left numbers (k + 1) (after_section (quad_size numbers) b)) (quads_count numbers b))

  -- and at the end nothing.
  pub numbers_none : 6 ≤ k → numbers_left numbers k b ≡ []
  unfolding joined
  numbers_none h = ap (λ (gs : List (List (List ℕ))). joined (joined gs)) (groups_none numbers k b h)
