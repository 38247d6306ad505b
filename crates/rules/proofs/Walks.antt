-- Walks: their first step, how far they get, how many tests they make, and that two which go hand in hand are the same. Whatever is walked.
use mathlib.Core.Bool.{Bool, true, false}
use mathlib.Core.Path.{◌≡◌, refl, sym, ◌∙◌, ap}
use Prim.Native.Nat.{ℕ, zero, suc, ◌+◌, ◌*◌, ◌≤◌}
use native.Mathlib.Nat.{suc-mul}
use native.Mathlib.Omega.{arith}
use lib.Dec.{eqb}
use borrow.Author.Tests.{eq-eqb, ne_eqb, eqb-true, eqb-false}
use Rattle.geometry.proofs.Refusals.{split}
use Rattle.rules.specs.Merger.{Walked, walk, walked, walked_rows}

-- A walk after so many that passed, and rows after so many whole ones with so many tests.
abbrev pub after : ℕ → Walked → Walked
after k w = record { got = k + w.got; tests = k + w.tests }

abbrev pub after_rows : ℕ → ℕ → Walked → Walked
after_rows k t w = record { got = k + w.got; tests = t + w.tests }

-- A walk's first step, from its test.
module _ {A : Type 0} (ok : A → Bool) (next : A → A) (a : A) (n : ℕ) where
  pub walk_passes : ok a ≡ true → walked ok next a (suc n) ≡ after 1 (walked ok next (next a) n)
  unfolding walked
  walk_passes e = rw (e, walked)

  pub walk_fails : ok a ≡ false → walked ok next a (suc n) ≡ walk 0 1
  unfolding walked
  walk_fails e = rw (e, walked)

-- A row's first step among rows.
module _ {A : Type 0} (row : A → Walked) (width : ℕ) (next : A → A) (a : A) (n : ℕ) where
  pub rows_whole : (row a).got ≡ width → walked_rows row width next a (suc n) ≡ after_rows 1 (row a).tests (walked_rows row width next (next a) n)
  unfolding walked_rows
  rows_whole e = rw (eq-eqb (row a).got width e, walked_rows)

  pub rows_broken : ((row a).got ≡ width → ⊥) → walked_rows row width next a (suc n) ≡ walk 0 (row a).tests
  unfolding walked_rows
  rows_broken d = rw (ne_eqb (row a).got width d, walked_rows)

-- ---- how far a walk gets

-- A row is not wider than asked.
pub walked_at_most : {A : Type 0} (ok : A → Bool) (next : A → A) (n : ℕ) (a : A) → (walked ok next a n).got ≤ n
unfolding walked
walked_at_most ok next zero a = omega arith
walked_at_most ok next (suc n) a =
    split (ok a) (λ t. rw (t, walked) (omega (arith, walked_at_most ok next n (next a)))) (λ f. rw (f, walked) (omega arith))

-- A walk makes no more tests than it may get.
pub walked_tests : {A : Type 0} (ok : A → Bool) (next : A → A) (n : ℕ) (a : A) → (walked ok next a n).tests ≤ n
unfolding walked
walked_tests ok next zero a = omega arith
walked_tests ok next (suc n) a =
    split (ok a) (λ t. rw (t, walked) (omega (arith, walked_tests ok next n (next a)))) (λ f. rw (f, walked) (omega arith))

module _ {A : Type 0} (row : A → Walked) (width : ℕ) (next : A → A) where
  -- Rows are not more than asked,
  pub rows_at_most : (n : ℕ) (a : A) → (walked_rows row width next a n).got ≤ n
  unfolding walked_rows
  rows_at_most zero a = omega arith
  rows_at_most (suc n) a =
      split (eqb (row a).got width) (λ t. rw (t, walked_rows) (omega (arith, rows_at_most n (next a)))) (λ f. rw (f, walked_rows) (omega arith))

  -- nor are their tests more than as many times those of one.
  pub rows_tests : (most : ℕ) → ((a : A) → (row a).tests ≤ most) → (n : ℕ) (a : A) → (walked_rows row width next a n).tests ≤ n * most
  unfolding walked_rows
  rows_tests most h zero a = omega arith
  rows_tests most h (suc n) a =
      split (eqb (row a).got width)
      (λ t. rw (t, walked_rows) (omega (arith, h a, rows_tests most h n (next a), suc-mul n most)))
      (λ f. rw (f, walked_rows) (omega (arith, h a, suc-mul n most)))

-- ---- two walks hand in hand

-- Walks from places that are tied as long as steps are left, and tested alike there, are the same;
pub walks_same : {A B : Type 0} (ok : A → Bool) (next : A → A) (ok' : B → Bool) (next' : B → B) (Tied : ℕ → A → B → Type 0)
    → ((n : ℕ) (a : A) (b : B) → Tied (suc n) a b → ok a ≡ ok' b) → ((n : ℕ) (a : A) (b : B) → Tied (suc n) a b → Tied n (next a) (next' b))
    → (n : ℕ) (a : A) (b : B) → Tied n a b → walked ok next a n ≡ walked ok' next' b n
unfolding walked
walks_same ok next ok' next' Tied same on zero a b tied = refl
walks_same ok next ok' next' Tied same on (suc n) a b tied =
    let rest = walks_same ok next ok' next' Tied same on n (next a) (next' b) (on n a b tied) in
    split (ok' b)
    (λ t. walk_passes ok next a n (same n a b tied ∙ t) ∙ rw (t, walked, rest))
    (λ f. walk_fails ok next a n (same n a b tied ∙ f) ∙ rw (f, walked))

-- and so are walks over rows that are walked alike.
pub rows_same : {A B : Type 0} (row : A → Walked) (next : A → A) (row' : B → Walked) (next' : B → B) (width : ℕ) (Tied : ℕ → A → B → Type 0)
    → ((n : ℕ) (a : A) (b : B) → Tied (suc n) a b → row a ≡ row' b) → ((n : ℕ) (a : A) (b : B) → Tied (suc n) a b → Tied n (next a) (next' b))
    → (n : ℕ) (a : A) (b : B) → Tied n a b → walked_rows row width next a n ≡ walked_rows row' width next' b n
unfolding walked_rows
rows_same row next row' next' width Tied same on zero a b tied = refl
rows_same row next row' next' width Tied same on (suc n) a b tied =
    let rest = rows_same row next row' next' width Tied same on n (next a) (next' b) (on n a b tied) in
    let here = same n a b tied in
    split (eqb (row' b).got width)
    (λ t. rows_whole row width next a n (ap (λ (w : Walked). w.got) here ∙ eqb-true (row' b).got width t) ∙ rw (here, rest, t, walked_rows))
    (λ f. rows_broken row width next a n (λ is. eqb-false (row' b).got width f (ap (λ (w : Walked). w.got) (sym here) ∙ is)) ∙ rw (here, f, walked_rows))
