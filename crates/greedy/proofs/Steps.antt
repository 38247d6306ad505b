-- A loop that changes a state, by what it has made of it so far: nothing at first, and with each turn one step more.
use Rattle.std.proofs.Common.{◌≡◌, ◌∙◌, ap, refl, sym, ℕ, ◌+◌, ◌*◌}
use Rattle.voxels.specs.Loop.{looped, Stand, stand, on_by, and_next, steps}
use Rattle.voxels.proofs.Loops.{Joins, onward_both, loop_more, loop_parts}

-- Things done to a state one after another are joined.
states_join : {S : Type 0} → Joins {B = S → S} (λ (s : S). s) and_next
states_join = record { left = λ f. refl; right = λ f. refl; assoc = λ f g h. refl }

module _ {S : Type 0} (d : ℕ) (act : S → ℕ → ℕ → S) (s : S) (a i : ℕ) where
  -- It has made nothing at first,
  pub steps_none : s ≡ steps d act s a i 0
  unfolding looped
  steps_none = refl

  -- and then what it makes at the next place of what it has made so far.
  pub steps_next : (k : ℕ) (now then : S) → now ≡ steps d act s a i k → then ≡ act now (a + k) (i + k * d) → then ≡ steps d act s a i (k + 1)
  steps_next k now then is made =
      let here : Stand → S → S = λ (p : Stand) (s : S). act s p.coordinate p.index in
      let more = ap (λ (f : S → S). f s) (loop_more states_join (on_by d) here k (stand a i)) in
      let there = ap (λ (p : Stand). act (steps d act s a i k) p.coordinate p.index) (onward_both d a i k) in
      made ∙ ap (λ (t : S). act t (a + k) (i + k * d)) is ∙ sym (more ∙ there)

  -- So many steps and then others are all of them.
  pub steps_parts : (k n : ℕ) → steps d act s a i (k + n) ≡ steps d act (steps d act s a i k) (a + k) (i + k * d) n
  steps_parts k n =
      let here : Stand → S → S = λ (p : Stand) (s : S). act s p.coordinate p.index in
      ap (λ (f : S → S). f s) (loop_parts states_join (on_by d) here k n (stand a i))
      ∙ ap (λ (p : Stand). looped (λ (s : S). s) and_next (on_by d) here p n (steps d act s a i k)) (onward_both d a i k)
