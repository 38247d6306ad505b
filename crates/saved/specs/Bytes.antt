-- Numbers in bytes: document 02, second request. "counts as 32-bit numbers, low byte first". Said of any number of bytes.
use Rattle.std.specs.Prelude.{List, [], ◌∷◌, map, ℕ, zero, suc, ◌+◌, ◌*◌, ◌/◌, ◌%◌, ◌<◌, take, drop}
use Rattle.geometry.specs.Lists.{Each}
use Rattle.listing.specs.Listing.{joined}

-- Each of a list is a byte.
abbrev pub Bytes : List ℕ → Type 0
Bytes l = Each (λ (b : ℕ). b < 256) l

-- A number in k bytes, low byte first.
unfoldable pub written : ℕ → ℕ → List ℕ
written zero n = []
written (suc k) n = n % 256 ∷ written k (n / 256)

-- The number in the first k bytes of a list, low byte first. (A byte past the list's end counts for nothing, and no reader asks for one.)
unfoldable pub number : ℕ → List ℕ → ℕ
number zero l = 0
number (suc k) [] = 0
number (suc k) (b ∷ l) = b + 256 * number k l

-- A 32-bit number, written,
abbrev pub written32 : ℕ → List ℕ
written32 = written 4

-- and read.
abbrev pub number32 : List ℕ → ℕ
number32 = number 4

-- A list from its start, cut into n pieces of one size.
unfoldable pub pieces : {A : Type 0} → ℕ → ℕ → List A → List (List A)
pieces size zero l = []
pieces size (suc n) l = take size l ∷ pieces size n (drop size l)

-- Items written one after another,
abbrev pub written_all : {A : Type 0} → (A → List ℕ) → List A → List ℕ
written_all write l = joined (map write l)

-- and n items of so many bytes each, read one after another.
abbrev pub read_all : {A : Type 0} → ℕ → (List ℕ → A) → ℕ → List ℕ → List A
read_all size read n l = map read (pieces size n l)
