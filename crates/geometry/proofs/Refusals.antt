-- Laws of refusals and of an order of them: what its first checks say the whole order says, what a call answers is decided by its checks, and a check refuses with the place that it has.
use mathlib.Core.Bool.{Bool, true, false, false≢true}
use mathlib.Core.List.{List, [], ◌∷◌, ◌++◌, append-nil}
use mathlib.Core.Path.{◌≡◌, refl, sym, ◌∙◌, ap}
use Prim.Native.Nat.{ℕ}
use Rattle.geometry.specs.Refusal.{Answer, accepted, refused, Check, at_place, answer, checked, follow}

-- A case on a test, with its outcome as an equation.
pub split {ℓ} : {P : Type ℓ} (b : Bool) → (b ≡ true → P) → (b ≡ false → P) → P
split true t f = t refl
split false t f = f refl

-- ---- refusals apart

abbrev number_in : Answer (Unit {0}) → ℕ
number_in (accepted u) = 0
number_in (refused n p) = n

abbrev place_in : Answer (Unit {0}) → ℕ
place_in (accepted u) = 0
place_in (refused n p) = p

-- Equal refusals have one number,
pub refused_number : {n m p q : ℕ} → ◌≡◌ {A = Answer (Unit {0})} (refused n p) (refused m q) → n ≡ m
refused_number e = ap number_in e

-- and one place;
pub refused_place : {n m p q : ℕ} → ◌≡◌ {A = Answer (Unit {0})} (refused n p) (refused m q) → p ≡ q
refused_place e = ap place_in e

abbrev refuses : Answer (Unit {0}) → Bool
refuses (accepted u) = false
refuses (refused n p) = true

-- and what is accepted is not refused.
pub not_both : {n p : ℕ} → ◌≡◌ {A = Answer (Unit {0})} (accepted tt) (refused n p) → ⊥
not_both e = false≢true (ap refuses e)

-- ---- the first check of an order

module _ {A : Type 0} (c : Check) (cs : List Check) (a : A) where
  -- A check that applies refuses, whatever follows.
  pub applies : c.applies ≡ true → answer (c ∷ cs) a ≡ refused c.number c.place
  unfolding answer
  applies e = rw (e, answer)

  -- One that does not apply leaves it to the rest.
  pub passes : c.applies ≡ false → answer (c ∷ cs) a ≡ answer cs a
  unfolding answer
  passes e = rw (e, answer)

  -- Of an order that accepts, the first check does not apply,
  pub first_passes : {b : A} → answer (c ∷ cs) a ≡ accepted b → c.applies ≡ false
  first_passes h = split c.applies (λ t. cc (applies t)) (λ f. f)

  -- and the rest accepts.
  pub rest_accepts : {b : A} → answer (c ∷ cs) a ≡ accepted b → answer cs a ≡ accepted b
  rest_accepts h = sym (passes (first_passes h)) ∙ h

-- A check by itself, where it does not apply.
pub passes_alone : (c : Check) → c.applies ≡ false → checked (c ∷ []) ≡ accepted tt
unfolding answer
passes_alone c e = passes c [] tt e

-- ---- an order and a call's answer

-- An order in two parts: a refusal of the first stands, and where it passes the second decides.
pub in_turn : {A : Type 0} (cs ds : List Check) (a : A) → answer (cs ++ ds) a ≡ follow (checked cs) (answer ds a)
unfolding answer
in_turn [] ds a = refl
in_turn (c ∷ cs) ds a = split c.applies (λ t. simp (t, answer)) (λ f. simp (f, answer) (in_turn cs ds a))

-- What a call answers is decided by its checks.
pub decided : {A : Type 0} (cs : List Check) (a : A) → answer cs a ≡ follow (checked cs) (accepted a)
unfolding answer
decided cs a = rw append-nil at (in_turn cs [] a)

-- A call refuses or gives its value as its checks say.
module _ {A : Type 0} (cs : List Check) (a : A) where
  pub whole_refuses : {n p : ℕ} → checked cs ≡ refused n p → refused n p ≡ answer cs a
  whole_refuses e = rw e at (sym (decided cs a))

  pub whole_passes : {b : A} → checked cs ≡ accepted tt → b ≡ a → accepted b ≡ answer cs a
  whole_passes e h = rw h (rw e at (sym (decided cs a)))

-- An answer that accepts gives its value, and all its checks have passed.
pub accepts_value : {A : Type 0} (cs : List Check) (a : A) {b : A} → answer cs a ≡ accepted b → a ≡ b
unfolding answer
accepts_value [] a h = cc
accepts_value (c ∷ cs) a h = accepts_value cs a (rest_accepts c cs a h)

pub accepts_checked : {A : Type 0} (cs : List Check) (a : A) {b : A} → answer cs a ≡ accepted b → checked cs ≡ accepted tt
unfolding answer
accepts_checked [] a h = refl
accepts_checked (c ∷ cs) a h = passes c cs tt (first_passes c cs a h) ∙ accepts_checked cs a (rest_accepts c cs a h)

-- An answer without its value.
abbrev bare : {A : Type 0} → Answer A → Answer (Unit {0})
bare (accepted a) = accepted tt
bare (refused n p) = refused n p

bare_follow : {A : Type 0} (x : Answer (Unit {0})) (a : A) → bare (follow x (accepted a)) ≡ x
bare_follow (accepted u) a = refl
bare_follow (refused n p) a = refl

-- A refusal that a call gives is its checks'.
pub answer_refused : {A : Type 0} (cs : List Check) (a : A) {n p : ℕ} → answer cs a ≡ refused n p → checked cs ≡ refused n p
answer_refused cs a e = sym (bare_follow (checked cs) a) ∙ ap bare (sym (decided cs a) ∙ e)

-- ---- places

-- A check passes wherever it is asked, and refuses with the place that it has there.
module _ (c : Check) (k : ℕ) (cs : List Check) where
  pub place_passes : checked (c ∷ []) ≡ accepted tt → checked (at_place k c ∷ cs) ≡ checked cs
  place_passes e = passes (at_place k c) cs tt (first_passes c [] tt e)

  pub place_refuses : {m p : ℕ} → checked (c ∷ []) ≡ refused m p → checked (at_place k c ∷ cs) ≡ refused m k
  place_refuses e =
      split c.applies
      (λ t. applies (at_place k c) cs tt t ∙ ap (λ (m : ℕ). refused m k) (refused_number (sym (applies c [] tt t) ∙ e)))
      (λ f. cc (passes_alone c f))

-- Every check of an order has place 0.
abbrev pub AllAtPlace0 : List Check → Type 0
AllAtPlace0 [] = Unit {0}
AllAtPlace0 (c ∷ cs) = (c.place ≡ 0) × AllAtPlace0 cs

-- Then it refuses with place 0.
pub refuses_at_0 : (cs : List Check) {n p : ℕ} → AllAtPlace0 cs → checked cs ≡ refused n p → checked cs ≡ refused n 0
unfolding answer
refuses_at_0 [] all e = absurd (not_both e)
refuses_at_0 (c ∷ cs) {n} all e =
    split c.applies
    (λ t. e ∙ ap (refused n) (refused_place (sym e ∙ applies c cs tt t) ∙ all.0))
    (λ f. passes c cs tt f ∙ refuses_at_0 cs all.1 (sym (passes c cs tt f) ∙ e))
