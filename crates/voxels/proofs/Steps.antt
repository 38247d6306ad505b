-- Steps to a neighbour: every neighbour of an interior point lies in the box, the box lies in the shape, and the wrapped offset leads from the index of an interior
-- point to that of the neighbour that shares its face.
use Rattle.std.proofs.Common.{◌≡◌, ℕ, ◌+◌, ◌-◌, ◌%◌, ◌<◌, ◌≤◌, Bool, true, false, ℤ, refl, ap, one-mul, arith}
use Rattle.geometry.specs.declared.axis.Axis.{Axis}
use Rattle.geometry.specs.declared.axis.Axis.TheVariants.{X, Y, Z}
use Rattle.geometry.specs.Point.{Point, at, along, put, moved}
use Rattle.geometry.specs.Axes.{positive}
use Rattle.geometry.proofs.Frame.{moved_on, moved_off, this_or_other}
use Rattle.voxels.specs.declared.extent.Extent.{Extent}
use Rattle.voxels.specs.Shape.{index, stride, InShape}
use Rattle.voxels.specs.Extent.{box, interior, Inside}
use Rattle.voxels.specs.Visible.{stepped, modulus, visibility_offset, offset_index}
use Rattle.voxels.specs.Entered.{Held}
use Rattle.voxels.proofs.Places.{index_moved, index_below}
use Rattle.voxels.proofs.Held.{stride_small}

-- The offset that the code forms, by the face's side.
pub offset_up : (s : ℤ) (d : ℕ) → positive s ≡ true → d ≡ visibility_offset (positive s) d
offset_up s d e = rw e

pub offset_down : (s : ℤ) (r d : ℕ) → positive s ≡ false → r < modulus → d < modulus → (r + d) % modulus ≡ 0 → r ≡ visibility_offset (positive s) d
offset_down s r d e hr hd w = rw e (omega arith)

-- ---- near points

-- Another coordinate, at most one off, leaves a point near on every axis.
put_near : (a b : Axis) (k : ℕ) (p : Point) → along a p ≤ k + 1 → k ≤ along a p + 1 → (along b p ≤ along b (put a k p) + 1) × (along b (put a k p) ≤ along b p + 1)
unfolding along put
put_near X X k p l h = (l, h)
put_near X Y k p l h = (omega arith, omega arith)
put_near X Z k p l h = (omega arith, omega arith)
put_near Y X k p l h = (omega arith, omega arith)
put_near Y Y k p l h = (l, h)
put_near Y Z k p l h = (omega arith, omega arith)
put_near Z X k p l h = (omega arith, omega arith)
put_near Z Y k p l h = (omega arith, omega arith)
put_near Z Z k p l h = (l, h)

-- So a step moves no coordinate by more than one.
step_near : (up : Bool) (a b : Axis) (p : Point) → (along b p ≤ along b (stepped up a p) + 1) × (along b (stepped up a p) ≤ along b p + 1)
unfolding stepped moved
step_near true a b p = put_near a b (along a p + 1) p (omega arith) (omega arith)
step_near false a b p = put_near a b (along a p - 1) p (omega arith) (omega arith)

-- One more on each axis.
pub along_next : (b : Axis) (p : Point) → along b (at (p.x + 1) (p.y + 1) (p.z + 1)) ≡ along b p + 1
unfolding along
along_next X p = refl
along_next Y p = refl
along_next Z p = refl

-- A move along an axis that does not pass the bound stays in an extent.
pub inside_moved : (e : Extent) (a : Axis) (k : ℕ) (p : Point) → Inside e p → along a p + k < along a e.bound → Inside e (moved a k p)
inside_moved e a k p h l =
    let lies = h a in
    this_or_other a (λ (b : Axis). (along b e.minimum ≤ along b (moved a k p)) × (along b (moved a k p) < along b e.bound))
    (rw (moved_on a k p) (omega arith, l))
    (λ b o. rw (moved_off b a o k p) (h b))

-- ---- interior, box and shape

module _ (min max : Point) where
  -- Every neighbour of an interior point lies in the box.
  pub neighbour_in_box : (up : Bool) (a : Axis) (p : Point) → Inside (interior min max) p → Inside (box min max) (stepped up a p)
  neighbour_in_box up a p i b =
      let lies = i b in
      let near = step_near up a b p in
      (omega (arith, along_next b min), omega (arith, along_next b max))

  -- An interior point is past the lowest on each axis.
  pub interior_positive : (a : Axis) (p : Point) → Inside (interior min max) p → 1 ≤ along a p
  interior_positive a p i = let lies = i a in omega (arith, along_next a min)

module _ (shape : Point) (lent : ℕ) (min max : Point) (h : Held shape lent min max) where
  -- The box lies in the shape.
  pub box_in_shape : (p : Point) → Inside (box min max) p → InShape shape p
  box_in_shape p i a = let lies = i a in omega (arith, along_next a max, h.within a)

  -- ---- the wrapped offset

  -- A step down undone.
  step_back : (a : Axis) (p : Point) → 1 ≤ along a p → moved a 1 (put a (along a p - 1) p) ≡ p
  unfolding moved put along
  step_back X p l = let e : p.x - 1 + 1 ≡ p.x = omega arith in rw e
  step_back Y p l = let e : p.y - 1 + 1 ≡ p.y = omega arith in rw e
  step_back Z p l = let e : p.z - 1 + 1 ≡ p.z = omega arith in rw e

  -- The offset leads to the neighbour on the face's side.
  pub offset_leads : (up : Bool) (a : Axis) (p : Point) → Inside (interior min max) p
      → offset_index (index shape p) (visibility_offset up (stride shape a)) ≡ index shape (stepped up a p)
  unfolding stepped
  offset_leads true a p i =
      let below = index_below shape (stepped true a p) (box_in_shape _ (neighbour_in_box min max true a p i)) in
      omega (arith, h.small, below, index_moved shape a 1 p, one-mul (stride shape a))
  offset_leads false a p i =
      let below = index_below shape (stepped false a p) (box_in_shape _ (neighbour_in_box min max false a p i)) in
      omega (arith, h.small, below, stride_small shape lent min max h a, index_moved shape a 1 (put a (along a p - 1) p), one-mul (stride shape a), ap (index shape) (step_back a p (interior_positive min max a p i)))
