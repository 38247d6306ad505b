-- Orders of refusals, asked part by part: a part that refuses decides, one that passes leaves it to the next, and a part may be asked again.
use mathlib.Core.List.{List, ◌++◌}
use mathlib.Core.Path.{◌≡◌, refl, sym, ◌∙◌, ap}
use Prim.Native.Nat.{ℕ}
use Rattle.std.specs.declared.result.Result.{Result}
use Rattle.std.specs.declared.result.Result.TheVariants.{Ok, Err}
use Rattle.geometry.specs.declared.refusal.Refusal.{Refusal}
use Rattle.geometry.specs.Refusal.{Answer, accepted, refused, Check, answer, checked, follow}
use Rattle.geometry.specs.Answers.{meaning, first_refused}
use Rattle.geometry.proofs.Refusals.{in_turn}

module _ {A : Type 0} (cs ds : List Check) (a : A) where
  pub part_refuses : {n p : ℕ} → checked cs ≡ refused n p → refused n p ≡ answer (cs ++ ds) a
  part_refuses e = rw e at (sym (in_turn cs ds a))

  pub part_passes : {x : Answer A} → checked cs ≡ accepted tt → x ≡ answer ds a → x ≡ answer (cs ++ ds) a
  part_passes e h = h ∙ rw e at (sym (in_turn cs ds a))

-- The first of two checks that refuses means a refusal that stands, and where there is none what the second says.
pub first_follows : (x y : Result (Unit {0}) Refusal) {z : Result (Unit {0}) Refusal} → z ≡ first_refused x y → meaning z ≡ follow (meaning x) (meaning y)
first_follows (Ok u) y e = ap meaning e
first_follows (Err r) y e = ap meaning e

-- Two parts that are joined by the first that refuses are the whole order.
pub asked_in_turn : (cs ds : List Check) {x y z : Answer (Unit {0})} → x ≡ checked cs → y ≡ checked ds → z ≡ follow x y → z ≡ checked (cs ++ ds)
asked_in_turn cs ds e d both = rw (both, e, d) (sym (in_turn cs ds tt))

-- Of an order that passes, both parts pass.
follow_accepts : (x y : Answer (Unit {0})) → follow x y ≡ accepted tt → (x ≡ accepted tt) × (y ≡ accepted tt)
follow_accepts (accepted u) y h = (refl, h)
follow_accepts (refused n p) y h = (cc, cc)

pub both_pass : (cs ds : List Check) → checked (cs ++ ds) ≡ accepted tt → (checked cs ≡ accepted tt) × (checked ds ≡ accepted tt)
both_pass cs ds h = follow_accepts _ _ (sym (in_turn cs ds tt) ∙ h)

-- Checks that have passed may be asked again before the next: nothing changes.
pub asked_again : {A : Type 0} (bs cs ds : List Check) (a : A) → (checked bs ≡ accepted tt → checked cs ≡ accepted tt)
    → {x : Answer (Unit {0})} → x ≡ checked bs → follow x (answer (cs ++ ds) a) ≡ answer (bs ++ ds) a
asked_again bs cs ds a passed {x} e = by x e
  where
    by : (x : Answer (Unit {0})) → x ≡ checked bs → follow x (answer (cs ++ ds) a) ≡ answer (bs ++ ds) a
    by (accepted u) e = sym (part_passes cs ds a (passed (sym e)) refl) ∙ part_passes bs ds a (sym e) refl
    by (refused n p) e = part_refuses bs ds a (sym e)
