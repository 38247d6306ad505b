-- Laws of what holds of each of a list, and of those that pass a test.
use mathlib.Core.Bool.{Bool}
use mathlib.Core.List.{List, [], ◌∷◌, ◌++◌}
use mathlib.Core.Path.{◌≡◌, refl}
use native.Mathlib.Omega.{arith}
use lib.ListN.{length}
use Rattle.geometry.specs.Lists.{Each, those, how_many}
use Rattle.geometry.proofs.Refusals.{split}

module _ {A : Type 0} (P : A → Type 0) where
  pub each_append : (l m : List A) → Each P l → Each P m → Each P (l ++ m)
  unfolding Each
  each_append [] m hl hm = hm
  each_append (a ∷ l) m hl hm = (hl.0, each_append l m hl.1 hm)

  pub each_left : (l m : List A) → Each P (l ++ m) → Each P l
  unfolding Each
  each_left [] m h = tt
  each_left (a ∷ l) m h = (h.0, each_left l m h.1)

  pub each_right : (l m : List A) → Each P (l ++ m) → Each P m
  unfolding Each
  each_right [] m h = h
  each_right (a ∷ l) m h = each_right l m h.1

  -- Of those that pass a test it holds too.
  pub each_those : (test : A → Bool) (l : List A) → Each P l → Each P (those test l)
  unfolding Each those
  each_those test [] h = tt
  each_those test (a ∷ l) h = split (test a) (λ t. rw (t, those) (h.0, each_those test l h.1)) (λ f. rw (f, those) (each_those test l h.1))

  -- What holds of everything holds of each.
  pub each_all : ((a : A) → P a) → (l : List A) → Each P l
  unfolding Each
  each_all h [] = tt
  each_all h (a ∷ l) = (h a, each_all h l)

-- What follows from something that holds of each holds of each.
pub each_up : {A : Type 0} (P Q : A → Type 0) → ((a : A) → P a → Q a) → (l : List A) → Each P l → Each Q l
unfolding Each
each_up P Q f [] h = tt
each_up P Q f (a ∷ l) h = (f a h.0, each_up P Q f l h.1)

-- As many as pass are left.
pub those_count : {A : Type 0} (test : A → Bool) (l : List A) → length (those test l) ≡ how_many test l
unfolding those how_many
those_count test [] = refl
those_count test (a ∷ l) = split (test a) (λ t. rw (t, those, those_count test l) (omega arith)) (λ f. rw (f, those, those_count test l) (omega arith))
