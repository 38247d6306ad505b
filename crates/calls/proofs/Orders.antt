-- Which numbers name a permutation.
use Rattle.std.proofs.Common.{◌≡◌, ℕ, Bool, true, false, [], ◌∷◌, length, get_or, leb, refl}
use Rattle.std.proofs.lemmas.Bool.{leb-true}
use Rattle.std.proofs.lemmas.List.{get_or_past}
use Rattle.geometry.specs.Refusal.{answer, at_place0, accepted, refused}
use Rattle.geometry.specs.Axes.{permutations, permutation_of}
use Rattle.geometry.specs.declared.axis.AxisPermutation.{AxisPermutation}
use Rattle.geometry.specs.declared.axis.AxisPermutation.TheVariants.{Xyz}

-- One check that gave a value did not apply,
passed : {A : Type 0} (b : Bool) (a v : A) → accepted a ≡ answer (at_place0 17 b ∷ []) v → (a ≡ v) × (b ≡ false)
unfolding answer
passed true a v e = cc
passed false a v e = (cc, refl)

-- and one that refused did.
stopped : {A : Type 0} (b : Bool) (n k : ℕ) (v : A) → refused n k ≡ answer (at_place0 17 b ∷ []) v → b ≡ true
unfolding answer
stopped true n k v e = refl
stopped false n k v e = cc

-- A number that names a permutation,
pub named : (n : ℕ) (p : AxisPermutation) → accepted p ≡ permutation_of n → (p ≡ get_or permutations n Xyz) × (leb (length permutations) n ≡ false)
unfolding permutation_of
named n p e = passed (leb (length permutations) n) p (get_or permutations n Xyz) e

-- and one that names none.
pub unnamed : (n k place : ℕ) → refused k place ≡ permutation_of n → (get_or permutations n Xyz ≡ Xyz) × (leb (length permutations) n ≡ true)
unfolding permutation_of
unnamed n k place e =
    let past : leb (length permutations) n ≡ true = stopped (leb (length permutations) n) k place (get_or permutations n Xyz) e in
    (get_or_past permutations n Xyz (leb-true (length permutations) n past), past)
