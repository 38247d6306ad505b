-- An output that a loop fills from its start on: what is written so far and what is left to write are the whole.
use Rattle.std.proofs.Common.{◌≡◌, ℕ, ◌+◌, ◌≤◌, List, [], ◌∷◌, ◌++◌, length, take, set, sym, ap, ◌∙◌, arith, append_assoc, append-nil, length-append, length-set, length-drop}
use Rattle.std.proofs.lemmas.List.{take_all, take_more_set, length-take-le}
use Rattle.std.proofs.lemmas.Slice.{take-put_mid}
use borrow.Rule.Slice.PartMut.{put_mid}

pub record Filled {A : Type 0} (left out : List A) (at : ℕ) (whole : List A) : Type 0 where
  pub held : at + length left ≡ length out
  pub is : take at out ++ left ≡ whole

module _ {A : Type 0} {whole : List A} where
  -- At the start all is left,
  pub filled_start : {left out : List A} → left ≡ whole → length out ≡ length whole → Filled left out 0 whole
  filled_start e long = record { held = omega (arith, ap length e); is = e }

  module _ {left out : List A} {at : ℕ} (f : Filled left out at whole) where
    -- there is room for the first of it,
    pub filled_room : (a b : List A) → left ≡ a ++ b → at + length a ≤ length out
    filled_room a b cut = omega (arith, f.held, ap length cut, length-append a b)

    -- which is written, and the others are left,
    pub filled_part : (a b : List A) {part : List A} (size end : ℕ) → left ≡ a ++ b → part ≡ a → size ≡ length a → end ≡ at + length a → Filled b (put_mid at size out part) end whole
    filled_part a b {part} size end cut is sized ends =
        let room : at + length a ≤ length out = filled_room a b cut in
        record {
          held =
              simp (length-append, length-take-le at out (omega arith), length-drop)
              (omega (arith, f.held, ap length cut, length-append a b, ap length is));
          is =
              ap (λ (l : List A). l ++ b) (take-put_mid at size out part end (omega (arith, ap length is)) (omega arith) ∙ ap (λ (l : List A). take at out ++ l) is)
              ∙ append_assoc (take at out) a b ∙ ap (λ (l : List A). take at out ++ l) (sym cut) ∙ f.is;
        }

    pub filled_one : (x : A) (b : List A) → left ≡ x ∷ b → Filled b (set out at x) (at + 1) whole
    filled_one x b cut =
        let room : at + 1 ≤ length out = filled_room (x ∷ []) b cut in
        record {
          held = rw length-set (omega (arith, f.held, ap length cut));
          is = ap (λ (l : List A). l ++ b) (take_more_set out at x (omega arith)) ∙ append_assoc (take at out) (x ∷ []) b ∙ ap (λ (l : List A). take at out ++ l) (sym cut) ∙ f.is;
        }

    -- and where nothing is left the output is the whole.
    pub filled_done : left ≡ [] → out ≡ whole
    filled_done none =
        sym (take_all at out (omega (arith, f.held, ap length none))) ∙ sym (append-nil (take at out)) ∙ ap (λ (l : List A). take at out ++ l) (sym none) ∙ f.is
