-- A face's three axes as a frame: what a step along an axis does to the coordinates, and that a face's axes differ. What follows from the axes of the six
-- permutations is shown here, case by case, once.
use mathlib.Core.Bool.{false}
use mathlib.Core.Path.{◌≡◌, refl}
use Prim.Native.Nat.{ℕ, ◌+◌, ◌*◌, ◌≤◌}
use native.Mathlib.Nat.{add-zero, add_assoc}
use native.Mathlib.Omega.{arith}
use Rattle.geometry.specs.declared.axis.Axis.{Axis}
use Rattle.geometry.specs.declared.axis.Axis.TheVariants.{X, Y, Z}
use Rattle.geometry.specs.declared.axis.Axes.{Axes}
use Rattle.geometry.specs.declared.axis.AxisPermutation.{AxisPermutation}
use Rattle.geometry.specs.declared.axis.AxisPermutation.TheVariants.{Xyz, Zxy, Yzx, Zyx, Xzy, Yxz}
use Rattle.geometry.specs.Point.{Point, along, put, moved, same_axis}
use Rattle.geometry.specs.Axes.{axes_of}
use Rattle.geometry.specs.Inner.{AtMost}

-- No step leaves a point where it is.
pub moved_none : (a : Axis) (p : Point) → moved a 0 p ≡ p
unfolding moved put along
moved_none X p = simp add-zero
moved_none Y p = simp add-zero
moved_none Z p = simp add-zero

-- Another coordinate on an axis is the one there,
pub put_on : (a : Axis) (k : ℕ) (p : Point) → along a (put a k p) ≡ k
unfolding put along
put_on X k p = refl
put_on Y k p = refl
put_on Z k p = refl

-- and leaves the others alone.
pub put_off : (a b : Axis) → same_axis a b ≡ false → (k : ℕ) (p : Point) → along a (put b k p) ≡ along a p
unfolding put along
put_off X X e k p = cc
put_off X Y e k p = refl
put_off X Z e k p = refl
put_off Y X e k p = refl
put_off Y Y e k p = cc
put_off Y Z e k p = refl
put_off Z X e k p = refl
put_off Z Y e k p = refl
put_off Z Z e k p = cc

-- So a step along an axis adds to the coordinate on it,
pub moved_on : (a : Axis) (k : ℕ) (p : Point) → along a (moved a k p) ≡ along a p + k
unfolding moved
moved_on a k p = put_on a (along a p + k) p

-- and leaves the others alone.
pub moved_off : (a b : Axis) → same_axis a b ≡ false → (k : ℕ) (p : Point) → along a (moved b k p) ≡ along a p
unfolding moved
moved_off a b e k p = put_off a b e (along b p + k) p

-- Steps along an axis add up.
pub moved_moved : (a : Axis) (k j : ℕ) (p : Point) → moved a j (moved a k p) ≡ moved a (k + j) p
unfolding moved put along
moved_moved X k j p = simp add_assoc
moved_moved Y k j p = simp add_assoc
moved_moved Z k j p = simp add_assoc

-- What holds of an axis, and of every other, holds of each.
pub this_or_other : (a : Axis) (P : Axis → Type 0) → P a → ((b : Axis) → same_axis b a ≡ false → P b) → (b : Axis) → P b
this_or_other X P this other = elim [ X ↦ this | Y ↦ other Y refl | Z ↦ other Z refl ]
this_or_other Y P this other = elim [ X ↦ other X refl | Y ↦ this | Z ↦ other Z refl ]
this_or_other Z P this other = elim [ X ↦ other X refl | Y ↦ other Y refl | Z ↦ this ]

-- So a bound on all coordinates stays one where it holds of the coordinate that grew.
pub moved_at_most : (a : Axis) (k m : ℕ) (p : Point) → AtMost m p → along a p + k ≤ m → AtMost m (moved a k p)
unfolding moved put along
moved_at_most X k m p h l = elim [ X ↦ l | Y ↦ h Y | Z ↦ h Z ]
moved_at_most Y k m p h l = elim [ X ↦ h X | Y ↦ l | Z ↦ h Z ]
moved_at_most Z k m p h l = elim [ X ↦ h X | Y ↦ h Y | Z ↦ l ]

-- Points that agree on every axis are one.
pub one_point : (p q : Point) → ((a : Axis) → along a p ≡ along a q) → p ≡ q
unfolding along
one_point p q e = rw (e X, e Y, e Z)

-- Three axes that differ, and are all there are: what holds of the three holds of every axis, and a product over every axis is one over the three.
pub record Frame (a : Axes) : Type 1 where
  pub un : same_axis a.u a.n ≡ false
  pub vn : same_axis a.v a.n ≡ false
  pub vu : same_axis a.v a.u ≡ false
  pub nu : same_axis a.n a.u ≡ false
  pub nv : same_axis a.n a.v ≡ false
  pub uv : same_axis a.u a.v ≡ false
  pub every : (P : Axis → Type 0) → P a.n → P a.u → P a.v → (b : Axis) → P b
  pub product : (h : Axis → ℕ) → h X * (h Y * h Z) ≡ h a.n * (h a.u * h a.v)

-- Every permutation's do.
pub frame : (p : AxisPermutation) → Frame (axes_of p)
frame Xyz = record { un = refl; vn = refl; vu = refl; nu = refl; nv = refl; uv = refl; every = λ P n u v. elim [ X ↦ n | Y ↦ u | Z ↦ v ]; product = λ h. omega arith }
frame Zxy = record { un = refl; vn = refl; vu = refl; nu = refl; nv = refl; uv = refl; every = λ P n u v. elim [ X ↦ u | Y ↦ v | Z ↦ n ]; product = λ h. omega arith }
frame Yzx = record { un = refl; vn = refl; vu = refl; nu = refl; nv = refl; uv = refl; every = λ P n u v. elim [ X ↦ v | Y ↦ n | Z ↦ u ]; product = λ h. omega arith }
frame Zyx = record { un = refl; vn = refl; vu = refl; nu = refl; nv = refl; uv = refl; every = λ P n u v. elim [ X ↦ v | Y ↦ u | Z ↦ n ]; product = λ h. omega arith }
frame Xzy = record { un = refl; vn = refl; vu = refl; nu = refl; nv = refl; uv = refl; every = λ P n u v. elim [ X ↦ n | Y ↦ v | Z ↦ u ]; product = λ h. omega arith }
frame Yxz = record { un = refl; vn = refl; vu = refl; nu = refl; nv = refl; uv = refl; every = λ P n u v. elim [ X ↦ u | Y ↦ n | Z ↦ v ]; product = λ h. omega arith }
