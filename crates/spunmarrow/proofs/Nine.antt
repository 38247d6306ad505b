-- Lists of six numbers, one by one.
use mathlib.Core.List.{List, [], ◌∷◌, ◌++◌, append-nil}
use mathlib.Core.Path.{◌≡◌, refl, sym, ◌∙◌}
use Prim.Native.Nat.{ℕ}
use lib.ListN.{length, get_or}
use Rattle.spunmarrow.specs.Write.{counts_of}

-- A list of six is its six elements.
six_are : (l r : List ℕ) → length l ≡ 6 → get_or l 0 0 ∷ get_or l 1 0 ∷ get_or l 2 0 ∷ get_or l 3 0 ∷ get_or l 4 0 ∷ get_or l 5 0 ∷ r ≡ l ++ r
six_are [] r h = cc
six_are (a ∷ []) r h = cc
six_are (a ∷ b ∷ []) r h = cc
six_are (a ∷ b ∷ c ∷ []) r h = cc
six_are (a ∷ b ∷ c ∷ d ∷ []) r h = cc
six_are (a ∷ b ∷ c ∷ d ∷ e ∷ []) r h = cc
six_are (a ∷ b ∷ c ∷ d ∷ e ∷ f ∷ []) r h = refl
six_are (a ∷ b ∷ c ∷ d ∷ e ∷ f ∷ g ∷ l) r h = cc

-- So six counts are what stands for them.
pub counts_are : (l : List ℕ) → length l ≡ 6 → l ≡ counts_of l
unfolding counts_of
counts_are l h = sym (six_are l [] h ∙ append-nil _)
