-- From a check's answer to a call's: what a call gives is decided by the checks that it asked, whose refusal `?` hands on.
use mathlib.Core.List.{List}
use mathlib.Core.Path.{◌≡◌, refl, sym, ◌∙◌}
use Rattle.std.specs.Result.{IsErrAnd}
use Rattle.std.specs.declared.result.Result.{Result}
use Rattle.std.proofs.lemmas.Result.{err_from_is_err_and}
use Rattle.geometry.specs.declared.refusal.Refusal.{Refusal}
use Rattle.geometry.specs.Refusal.{Answer, accepted, refused, Check, answer, checked}
use Rattle.geometry.specs.Answers.{number, meaning}
use Rattle.geometry.proofs.Refusals.{whole_refuses, whole_passes}

-- What a refusal means is the same of every call.
abbrev pub refusal_of : {A : Type 0} → Refusal → Answer A
refusal_of e = refused (number e.reason) e.place

-- What `?` hands on means what the refusal does.
pub handed_on : {A : Type 0} (r : Result A Refusal) (e : Refusal) → IsErrAnd r (λ d. d ≡ e) → meaning r ≡ refusal_of e
handed_on r e h = let p = err_from_is_err_and r h in rw (p.1, p.2) refl

module _ (cs : List Check) {A : Type 0} (a : A) where
  -- A call whose checks passed gives its value,
  pub value_given : {v : A} → accepted tt ≡ checked cs → v ≡ a → accepted v ≡ answer cs a
  value_given told h = whole_passes cs a (sym told) h

  -- and one whose checks refused hands their refusal on.
  pub refusal_given : (r : Result A Refusal) (e : Refusal) → IsErrAnd r (λ d. d ≡ e) → refusal_of e ≡ checked cs → meaning r ≡ answer cs a
  refusal_given r e h told = handed_on r e h ∙ whole_refuses cs a (sym told)
