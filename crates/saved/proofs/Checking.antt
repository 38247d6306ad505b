-- Of checks and those after them, of check 12 of quads in order, and of how many quads there are.
use mathlib.Core.Bool.{not}
use mathlib.Core.List.{List, [], ◌∷◌, ◌++◌, map}
use mathlib.Core.Path.{◌≡◌, refl, sym, ◌∙◌, ap}
use Prim.Native.Nat.{ℕ, ◌+◌}
use native.Mathlib.Omega.{arith}
use lib.ListN.{length, length-append}
use borrow.Author.Tests.{not-false}
use Rattle.geometry.specs.Refusal.{Answer, accepted, refused, Check, answer, checked, follow}
use Rattle.geometry.specs.Lists.{Each}
use Rattle.geometry.proofs.Refusals.{in_turn, passes, first_passes}
use Rattle.geometry.proofs.Orders.{both_pass}
use Rattle.listing.specs.Listing.{joined}
use Rattle.writing.specs.Handed.{OrientedQuad, numbered, total, bad_quad_at}
use Rattle.writing.specs.Statements.{WithinQuad}

-- Of checks and those after them: where the first pass the others decide, and where they refuse that stands.
module _ (cs ds : List Check) {all : List Check} {t : Answer (Unit {0})} (cut : all ≡ cs ++ ds) (left : checked all ≡ t) where
  in_two : follow (checked cs) (checked ds) ≡ t
  in_two = sym (in_turn cs ds tt) ∙ sym (ap checked cut) ∙ left

  pub checks_on : checked cs ≡ accepted tt → checked ds ≡ t
  checks_on e = rw e at in_two

  pub checks_stop : {n p : ℕ} → checked cs ≡ refused n p → refused n p ≡ t
  checks_stop e = rw e at in_two

-- No checks refuse nothing.
pub checks_done : {cs : List Check} {t : Answer (Unit {0})} → checked cs ≡ t → cs ≡ [] → accepted tt ≡ t
unfolding answer
checks_done e none = rw none at e

-- Where 12 refuses no quad each is within the limits,
pub quads_within : (k : ℕ) (qs : List OrientedQuad) → checked (numbered bad_quad_at k qs) ≡ accepted tt → Each WithinQuad qs
unfolding numbered Each
quads_within k [] h = tt
quads_within k (q ∷ qs) h =
    let (here, rest) = both_pass (bad_quad_at k q) (numbered bad_quad_at (k + 1) qs) h in
    (not-false _ (first_passes _ [] tt here), quads_within (k + 1) qs rest)

-- and the other way.
pub within_quads : (k : ℕ) (qs : List OrientedQuad) → Each WithinQuad qs → checked (numbered bad_quad_at k qs) ≡ accepted tt
unfolding numbered Each answer
within_quads k [] h = refl
within_quads k (q ∷ qs) h = passes _ (numbered bad_quad_at (k + 1) qs) tt (ap not h.0) ∙ within_quads (k + 1) qs h.1

-- The lists' lengths sum to that of all of them.
pub total_joined : {A : Type 0} (ls : List (List A)) → total (map length ls) ≡ length (joined ls)
unfolding total joined
total_joined [] = refl
total_joined (l ∷ ls) = omega (arith, length-append l (joined ls), total_joined ls)
