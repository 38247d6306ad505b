-- An accepted entry's interior: its minimum is not past its bound, both lie in the shape, and the code's numbers, taken modulo 2 to the 32nd, are its index and the strides.
use Rattle.std.proofs.Common.{◌≡◌, ℕ, ◌%◌, ◌<◌, ◌≤◌, Bool, List, sym, ap, ◌∙◌, arith}
use Rattle.geometry.specs.declared.axis.Axis.{Axis}
use Rattle.geometry.specs.declared.axis.Axis.TheVariants.{X, Y, Z}
use Rattle.geometry.specs.Point.{Point, along}
use Rattle.geometry.specs.Refusal.{accepted, Check, answer}
use Rattle.geometry.proofs.Refusals.{accepts_value}
use Rattle.voxels.specs.declared.bounds.Entry.{Entry}
use Rattle.voxels.specs.declared.extent.Extent.{Extent}
use Rattle.voxels.specs.Shape.{size, index, stride, InShape}
use Rattle.voxels.specs.Extent.{Inside, interior}
use Rattle.voxels.specs.Visible.{stepped, modulus, visibility_offset, offset_index}
use Rattle.voxels.specs.Answers.{entry}
use Rattle.voxels.specs.Entered.{most_voxels, Entered}
use Rattle.voxels.proofs.Places.{index_below}
use Rattle.voxels.proofs.Held.{max_small, stride_is, index_fits}
use Rattle.voxels.proofs.Steps.{neighbour_in_box, box_in_shape, offset_leads}

-- Whatever the checks, the interior that an accepted entry gives is that of the box.
pub interior_is : (checks : List Check) (shape min max : Point) {e : Entry} → answer checks (entry shape min max) ≡ accepted e → e.interior ≡ interior min max
interior_is checks shape min max enters = ap (λ (e : Entry). e.interior) (sym (accepts_value checks (entry shape min max) enters))

module _ (lent : ℕ) (shape : Point) (inner : Extent) (entered : Entered lent shape inner) where
  pub below : (a : Axis) → along a inner.minimum ≤ along a inner.bound
  unfolding along
  below = let h = entered.held in rw entered.is (elim [ X ↦ omega (arith, h.spans X) | Y ↦ omega (arith, h.spans Y) | Z ↦ omega (arith, h.spans Z) ])

  pub bound_within : (a : Axis) → along a inner.bound < along a shape
  bound_within a = let h = entered.held in rw entered.is (h.within a)

  pub bound_small : (a : Axis) → along a inner.bound ≤ most_voxels
  bound_small a = let h = entered.held in rw entered.is (omega (arith, max_small shape lent entered.min entered.max h a))

  pub minimum_in_shape : InShape shape inner.minimum
  minimum_in_shape a = omega (arith, below a, bound_within a)

  pub minimum_index : {i : ℕ} → i ≡ index shape inner.minimum % modulus → i ≡ index shape inner.minimum
  minimum_index e = e ∙ index_fits shape lent entered.min entered.max entered.held inner.minimum minimum_in_shape

  pub entered_stride : (a : Axis) {d : ℕ} → d ≡ stride shape a % modulus → d ≡ stride shape a
  entered_stride a e = stride_is shape lent entered.min entered.max entered.held a e

  -- An interior point lies in the shape,
  pub inner_in_shape : (p : Point) → Inside inner p → InShape shape p
  inner_in_shape p i a = let lies = i a in omega (arith, bound_within a)

  -- and the wrapped offset leads from its index to that of its neighbour, which lies there too.
  pub inner_offset : (up : Bool) (a : Axis) (p : Point) → Inside inner p → offset_index (index shape p) (visibility_offset up (stride shape a)) ≡ index shape (stepped up a p)
  inner_offset up a p i = offset_leads shape lent entered.min entered.max entered.held up a p (rw entered.is at i)

  pub inner_beyond : (up : Bool) (a : Axis) (p : Point) → Inside inner p → offset_index (index shape p) (visibility_offset up (stride shape a)) < size shape
  inner_beyond up a p i =
      rw (inner_offset up a p i)
      (index_below shape _ (box_in_shape shape lent entered.min entered.max entered.held _ (neighbour_in_box entered.min entered.max up a p (rw entered.is at i))))
