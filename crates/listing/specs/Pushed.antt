-- How a mesher lists, item by item: each item is written where there is room, and counted. Groups that are listed so leave what `lay` says (proofs/Pushed.antt, `all_laid`).
use Rattle.std.specs.Prelude.{true, false, List, [], ◌∷◌, map, ◌≡◌, ℕ, ◌+◌, ◌*◌, ltb, length, set}
use Rattle.listing.specs.Listing.{joined, capacity}

-- A list's numbers, set in a buffer one after another from a place on.
unfoldable pub set_all : List ℕ → ℕ → List ℕ → List ℕ
set_all out k [] = out
set_all out k (x ∷ xs) = set_all (set out k x) (k + 1) xs

-- An item's numbers, written into a buffer after so many items of as many numbers, where there is room for all of them.
unfoldable pub put : List ℕ → ℕ → List ℕ → List ℕ
put out listed item = elim (ltb listed (capacity (length item) (length out))) [ true ↦ set_all out (listed * length item) item | false ↦ out ]

-- A buffer that items are written to, and how many were listed, written or not.
pub record Output : Type 0 where
  pub out : List ℕ
  pub listed : ℕ

-- The buffer and the number.
abbrev pub output : List ℕ → ℕ → Output
output out listed = record { out = out; listed = listed }

-- An item of so many numbers is listed: it is written where there is room.
unfoldable pub pushed : {A : Type 0} → ℕ → (A → List ℕ) → Output → A → Output
pushed numbers numbers_of s a =
    elim (ltb s.listed (capacity numbers (length s.out))) [
      | true ↦ output (set_all s.out (s.listed * numbers) (numbers_of a)) (s.listed + 1)
      | false ↦ output s.out (s.listed + 1)
    ]

-- Items are listed one after another.
unfoldable pub pushed_all : {A : Type 0} → ℕ → (A → List ℕ) → Output → List A → Output
pushed_all numbers numbers_of s [] = s
pushed_all numbers numbers_of s (a ∷ l) = pushed_all numbers numbers_of (pushed numbers numbers_of s a) l

-- The buffer and the number listed are those of some groups listed from the start, and the counts are the groups'.
pub record MadeGroups {A : Type 0} (numbers : ℕ) (numbers_of : A → List ℕ) (groups : List (List A)) (was out : List ℕ) (listed : ℕ) (counts : List ℕ) : Type 0 where
  pub is : output out listed ≡ pushed_all numbers numbers_of (output was 0) (joined groups)
  pub each : counts ≡ map length groups
