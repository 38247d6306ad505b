-- Signs, permutations, signed axes and a face's axes: document 01, 'Faces', 'Refusal numbers' 10 and 11, and of 'Corners and vertex numbers' the last
-- sentence; axis.rs lines 29 to 187.
use Rattle.std.specs.Prelude.{Bool, true, false, not, List, [], ◌∷◌, length, get_or, ℕ, ◌+◌, ℤ, pos, negsuc, ◌*ℤ◌, eqb, leb}
use Rattle.std.specs.Int.Signed.{lt_z}
use Rattle.geometry.specs.declared.vector.UVec3.{UVec3}
use Rattle.geometry.specs.declared.vector.IVec3.{IVec3}
use Rattle.geometry.specs.declared.axis.Axis.{Axis}
use Rattle.geometry.specs.declared.axis.Axis.TheVariants.{X, Y, Z}
use Rattle.geometry.specs.declared.axis.Axes.{Axes}
use Rattle.geometry.specs.declared.axis.AxisPermutation.{AxisPermutation}
use Rattle.geometry.specs.declared.axis.AxisPermutation.TheVariants.{Xyz, Zxy, Yzx, Zyx, Xzy, Yxz}
use Rattle.geometry.specs.declared.axis.SignedAxis.{SignedAxis}
use Rattle.geometry.specs.declared.axis.SignedAxis.TheVariants.{NegX, PosX, NegY, PosY, NegZ, PosZ}
use Rattle.geometry.specs.declared.face.OrientedBlockFace.{OrientedBlockFace}
use Rattle.geometry.specs.Point.{unit_vector}
use Rattle.geometry.specs.Refusal.{Answer, Check, answer, at_place0}

-- ---- signs

-- Whether two integers are the same.
unfoldable pub same : ℤ → ℤ → Bool
same (pos m) (pos n) = eqb m n
same (pos m) (negsuc n) = false
same (negsuc m) (pos n) = false
same (negsuc m) (negsuc n) = eqb m n

-- 1.
abbrev pub one : ℤ
one = pos 1

-- -1.
abbrev pub minus_one : ℤ
minus_one = negsuc 0

-- Whether an integer is above 0.
abbrev pub positive : ℤ → Bool
positive z = lt_z (pos 0) z

-- Whether an integer is below 0.
abbrev pub negative : ℤ → Bool
negative z = lt_z z (pos 0)

-- ---- permutations

-- "Permutations name (n, u, v)" (axis.rs 103 to 112).
abbrev pub axes_of : AxisPermutation → Axes
axes_of Xyz = record { n = X; u = Y; v = Z }
axes_of Zxy = record { n = Z; u = X; v = Y }
axes_of Yzx = record { n = Y; u = Z; v = X }
axes_of Zyx = record { n = Z; u = Y; v = X }
axes_of Xzy = record { n = X; u = Z; v = Y }
axes_of Yxz = record { n = Y; u = X; v = Z }

-- "Xyz, Zxy, Yzx are even (sign 1); Zyx, Xzy, Yxz are odd (sign -1)" (axis.rs 80 to 89).
abbrev pub permutation_sign : AxisPermutation → ℤ
permutation_sign Xyz = one
permutation_sign Zxy = one
permutation_sign Yzx = one
permutation_sign Zyx = minus_one
permutation_sign Xzy = minus_one
permutation_sign Yxz = minus_one

-- "The canonical face of X, Y, Z uses Xyz, Yzx, Zxy": the even permutation whose n is the axis (axis.rs 62 to 68).
abbrev pub even_with_normal_axis : Axis → AxisPermutation
even_with_normal_axis X = Xyz
even_with_normal_axis Y = Yzx
even_with_normal_axis Z = Zxy

-- The odd permutation whose n is the axis (axis.rs 71 to 77).
abbrev pub odd_with_normal_axis : Axis → AxisPermutation
odd_with_normal_axis X = Xzy
odd_with_normal_axis Y = Yxz
odd_with_normal_axis Z = Zyx

-- The permutations in the order of their numbers, which is that of the Rust's cases (axis.rs 48 to 58).
abbrev pub permutations : List AxisPermutation
permutations = Xyz ∷ Zxy ∷ Yzx ∷ Zyx ∷ Xzy ∷ Yxz ∷ []

-- A permutation's number: its place in that order (proofs/Axes.antt, `number_back`).
abbrev pub permutation_number : AxisPermutation → ℕ
permutation_number Xyz = 0
permutation_number Zxy = 1
permutation_number Yzx = 2
permutation_number Zyx = 3
permutation_number Xzy = 4
permutation_number Yxz = 5

-- Refusal 17, which is ours and not one of document 01's (docs/DECISIONS.md): there is no permutation of that number.
abbrev pub no_permutation : ℕ → Check
no_permutation k = at_place0 17 (leb (length permutations) k)

-- The permutation of a number, 0 to 5. (`get_or`'s last argument is what stands past the end of the list, and is never given.)
unfoldable pub permutation_of : ℕ → Answer AxisPermutation
permutation_of k = answer (no_permutation k ∷ []) (get_or permutations k Xyz)

-- ---- signed axes

-- A signed axis' axis (axis.rs 143 to 152).
abbrev pub unsigned_axis : SignedAxis → Axis
unsigned_axis NegX = X
unsigned_axis PosX = X
unsigned_axis NegY = Y
unsigned_axis PosY = Y
unsigned_axis NegZ = Z
unsigned_axis PosZ = Z

-- A signed axis' sign (axis.rs 155 to 164).
abbrev pub signum : SignedAxis → ℤ
signum NegX = minus_one
signum PosX = one
signum NegY = minus_one
signum PosY = one
signum NegZ = minus_one
signum PosZ = one

-- The signed axis on the positive side of an axis, or on the negative (axis.rs 132 to 139).
abbrev pub toward : Bool → Axis → SignedAxis
toward true X = PosX
toward true Y = PosY
toward true Z = PosZ
toward false X = NegX
toward false Y = NegY
toward false Z = NegZ

-- A step, a signed number of times (face.rs 45).
abbrev pub times : ℤ → UVec3 → IVec3
times s v = record { x = s *ℤ pos v.x; y = s *ℤ pos v.y; z = s *ℤ pos v.z }

-- A signed axis' unit vector: its axis' times its sign (axis.rs 167 to 176).
abbrev pub signed_unit : SignedAxis → IVec3
signed_unit a = times (signum a) (unit_vector (unsigned_axis a))

-- Refusal 10, of a sign: "signed axis from sign 0".
abbrev pub zero_sign : ℤ → Check
zero_sign s = at_place0 10 (same s (pos 0))

-- "A signed axis is made from any nonzero sign" (axis.rs 129 to 140).
unfoldable pub signed_axis_of_sign : ℤ → Axis → Answer SignedAxis
signed_axis_of_sign s a = answer (zero_sign s ∷ []) (toward (positive s) a)

-- 1 where something holds, and else 0.
abbrev pub bit : Bool → ℕ
bit true = 1
bit false = 0

-- How many parts of a vector are nonzero.
unfoldable pub nonzero_parts : IVec3 → ℕ
nonzero_parts v = bit (not (same v.x (pos 0))) + bit (not (same v.y (pos 0))) + bit (not (same v.z (pos 0)))

-- Refusal 10, of a vector: "or from the zero vector".
abbrev pub zero_vector : IVec3 → Check
zero_vector v = at_place0 10 (eqb (nonzero_parts v) 0)

-- Refusal 11: "vector with two or more nonzero parts".
abbrev pub many_parts : IVec3 → Check
many_parts v = at_place0 11 (leb 2 (nonzero_parts v))

-- The axis of a vector's one nonzero part, with that part's sign. It is given only where exactly one is nonzero
-- (axis.rs 181 to 183).
unfoldable pub only_part : IVec3 → SignedAxis
only_part v =
    elim (same v.x (pos 0)) [
      | false ↦ toward (positive v.x) X
      | true ↦ elim (same v.y (pos 0)) [
        | false ↦ toward (positive v.y) Y
        | true ↦ toward (positive v.z) Z
      ]
    ]

-- "a vector with exactly one nonzero part gives that axis with that part's sign" (axis.rs 179 to 186).
unfoldable pub signed_axis_of_vector : IVec3 → Answer SignedAxis
signed_axis_of_vector v = answer (zero_vector v ∷ many_parts v ∷ []) (only_part v)

-- ---- a face's axes

-- "A face is a sign and a permutation, nothing else; n, u and v follow from it." Its n (face.rs 24 and 29 to 31):
abbrev pub n_axis : OrientedBlockFace → Axis
n_axis f = (axes_of f.permutation).n

-- Its u.
abbrev pub u_axis : OrientedBlockFace → Axis
u_axis f = (axes_of f.permutation).u

-- Its v.
abbrev pub v_axis : OrientedBlockFace → Axis
v_axis f = (axes_of f.permutation).v
