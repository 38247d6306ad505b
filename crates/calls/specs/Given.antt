-- What the numbers that a call is given stand for.
use Rattle.std.specs.Prelude.{◌≡◌, ℕ, ℤ, List, [], ◌∷◌, get_or, ◌==◌, nat_le, length, if◌then◌else◌}
use Rattle.std.specs.Int.{w32, cast_signed}
use Rattle.geometry.specs.declared.vector.UVec3.{UVec3}
use Rattle.geometry.specs.declared.axis.Axis.{Axis}
use Rattle.geometry.specs.declared.axis.Axis.TheVariants.{X, Y, Z}
use Rattle.geometry.specs.declared.axis.AxisPermutation.{AxisPermutation}
use Rattle.geometry.specs.declared.axis.AxisPermutation.TheVariants.{Xyz}
use Rattle.geometry.specs.declared.face.OrientedBlockFace.{OrientedBlockFace}
use Rattle.geometry.specs.Axes.{permutations}
use Rattle.calls.specs.declared.given.Given.{Given}
use Rattle.calls.specs.declared.given.Notation.{Notation}
use Rattle.calls.specs.Text.{number}

-- x is what `read` makes of the start of what is left, and its rest is left.
pub record Reads {A : Type 0} (read : Notation → List ℕ → A × List ℕ) (old new : Given) (x : A) : Type 0 where
  pub value : x ≡ (read old.notation old.rest.now).0
  pub rest : new.rest.now ≡ (read old.notation old.rest.now).1
  pub notation : new.notation ≡ old.notation

-- What is left is what `left` makes of what was left.
pub record Leaves (left : Notation → List ℕ → List ℕ) (old new : Given) : Type 0 where
  pub rest : new.rest.now ≡ left old.notation old.rest.now
  pub notation : new.notation ≡ old.notation

-- A signed number.
abbrev pub signed : Notation → List ℕ → ℤ × List ℕ
signed notation text = let n = number notation text in (cast_signed w32 n.0, n.1)

-- An axis' number: 0 for X, 1 for Y, and any other for Z.
abbrev pub axis_of : ℕ → Axis
axis_of n = if n == 0 then X else if n == 1 then Y else Z

-- An axis.
abbrev pub axis : Notation → List ℕ → Axis × List ℕ
axis notation text = let n = number notation text in (axis_of n.0, n.1)

-- A point: its three numbers.
abbrev pub point : Notation → List ℕ → UVec3 × List ℕ
point notation text =
    let x = number notation text in
    let y = number notation x.1 in
    let z = number notation y.1 in
    (record { x = x.0; y = y.0; z = z.0 }, z.1)

-- A permutation by its number; Xyz where there is none of that number.
abbrev pub permutation : Notation → List ℕ → AxisPermutation × List ℕ
permutation notation text = let n = number notation text in (get_or permutations n.0 Xyz, n.1)

-- The question mark that is written where there is none.
abbrev pub permutation_mark : Notation → List ℕ → List ℕ
permutation_mark notation text = if nat_le (length permutations) (number notation text).0 then 63 ∷ [] else []

-- A face: its sign and its permutation's number.
abbrev pub face : Notation → List ℕ → OrientedBlockFace × List ℕ
face notation text =
    let sign = signed notation text in
    let order = permutation notation sign.1 in
    (record { n_sign = sign.0; permutation = order.0 }, order.1)

-- The question mark of its permutation.
abbrev pub face_mark : Notation → List ℕ → List ℕ
face_mark notation text = permutation_mark notation (signed notation text).1
