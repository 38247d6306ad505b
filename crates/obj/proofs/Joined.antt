-- Lists end to end.
use mathlib.Core.List.{List, [], ◌∷◌, ◌++◌, map, append_assoc}
use mathlib.Core.Path.{◌≡◌, refl, sym}
use Prim.Native.Nat.{ℕ}
use Rattle.listing.specs.Listing.{joined}

-- What is gathered from two lists, one after the other.
pub joined_append : {A : Type 0} (g : A → List ℕ) (a b : List A) → joined (map g (a ++ b)) ≡ joined (map g a) ++ joined (map g b)
unfolding joined
joined_append g [] b = refl
joined_append g (x ∷ a) b = rw (joined_append g a b) (sym (append_assoc (g x) (joined (map g a)) (joined (map g b))))
