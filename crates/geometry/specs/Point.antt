-- Points, axes and steps: what document 01 means by a point's coordinates, by "on n" and by "+u width"; axis.rs lines 6 to 27.
use Rattle.std.specs.Prelude.{Bool, ℕ, ◌+◌, eqb}
use Rattle.geometry.specs.declared.vector.UVec3.{UVec3}
use Rattle.geometry.specs.declared.axis.Axis.{Axis}
use Rattle.geometry.specs.declared.axis.Axis.TheVariants.{X, Y, Z}

-- A point has three numbers.
abbrev pub Point : Type 0
Point = UVec3

-- The point of three numbers.
abbrev pub at : ℕ → ℕ → ℕ → Point
at x y z = record { x = x; y = y; z = z }

-- An axis' number (axis.rs 7 to 9 and 15 to 17).
abbrev pub axis_number : Axis → ℕ
axis_number X = 0
axis_number Y = 1
axis_number Z = 2

-- Whether two axes are the same.
abbrev pub same_axis : Axis → Axis → Bool
same_axis a b = eqb (axis_number a) (axis_number b)

-- One step along an axis (axis.rs 20 to 26).
abbrev pub unit_vector : Axis → UVec3
unit_vector X = at 1 0 0
unit_vector Y = at 0 1 0
unit_vector Z = at 0 0 1

-- A point's coordinate on an axis.
unfoldable pub along : Axis → Point → ℕ
along X p = p.x
along Y p = p.y
along Z p = p.z

-- The point with another coordinate on an axis.
unfoldable pub put : Axis → ℕ → Point → Point
put X k p = at k p.y p.z
put Y k p = at p.x k p.z
put Z k p = at p.x p.y k

-- A point, k steps up along an axis.
unfoldable pub moved : Axis → ℕ → Point → Point
moved a k p = put a (along a p + k) p
