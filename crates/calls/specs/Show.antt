-- What is written of what comes out of a call.
use Rattle.std.specs.Prelude.{ℕ, List, [], ◌∷◌, ◌++◌, flat_map, decimal}
use Rattle.geometry.specs.declared.vector.UVec3.{UVec3}
use Rattle.geometry.specs.Refusal.{Answer, accepted, refused}

-- A number, after a space.
abbrev pub number : ℕ → List ℕ
number n = 32 ∷ decimal n

-- The numbers of a point or a quad: a space before the first, and a comma before each other.
abbrev pub numbers : List ℕ → List ℕ
numbers [] = []
numbers (n ∷ ns) = number n ++ flat_map (λ m. 44 ∷ decimal m) ns

-- A point.
abbrev pub point : UVec3 → List ℕ
point p = numbers (p.x ∷ p.y ∷ p.z ∷ [])

-- A refusal and its place.
abbrev pub refusal : ℕ → ℕ → List ℕ
refusal n place = number n ++ number place

-- What a check answers: 0, or a refusal and its place.
abbrev pub check : Answer (Unit {0}) → List ℕ
check (accepted _) = number 0
check (refused n place) = refusal n place
