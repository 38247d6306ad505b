-- What checks 1 to 5 leave when they pass: the box lies in the shape, spans two voxels or more on each axis, and every voxel was lent. This is the one place where
-- X·Y·Z ≤ 16,777,216 comes from the largest axis.
use Rattle.std.proofs.Common.{◌≡◌, ℕ, ◌+◌, ◌-◌, ◌*◌, ◌%◌, ◌<◌, ◌≤◌, Bool, false, eqb, ltb, leb, List, [], ◌∷◌, ◌++◌, map, refl, ◌∙◌, mul-le-mul_right, mod-eq_of_lt, add-mul, mul-le-mul, mul-le-mul_left, one-mul, zero-mul, mul-one, arith, ltb-false, eqb-true, leb-false}
use borrow.Author.Tests.{eqb-false}
use Rattle.geometry.specs.declared.axis.Axis.{Axis}
use Rattle.geometry.specs.declared.axis.Axis.TheVariants.{X, Y, Z}
use Rattle.geometry.specs.Point.{Point, at, along}
use Rattle.geometry.specs.Quad.{largest_axis}
use Rattle.geometry.specs.Refusal.{accepted, Check, checked, at_place0}
use Rattle.geometry.proofs.Refusals.{split, first_passes, rest_accepts}
use Rattle.voxels.specs.Shape.{size, index, stride, InShape}
use Rattle.voxels.specs.Extent.{box, scan}
use Rattle.voxels.specs.Visible.{modulus}
use Rattle.voxels.specs.Checks.{on_each_axis, bad_axis, bad_shape, few_voxels, min_above_max, max_past_shape, min_is_max, bad_voxel_at, bad_voxels, bounds_checks}
use Rattle.voxels.specs.Entered.{most_voxels, Held}
use Rattle.voxels.specs.Rows.{RowsLent, SlicesLent, bad_at, slices}
use Rattle.geometry.proofs.Orders.{both_pass}
use Rattle.voxels.proofs.Scan.{map_gathered, flat_scan}
use Rattle.voxels.proofs.Places.{index_at, index_below}

-- Of a check on each axis that passes, none applies.
pub axes_pass : (n : ℕ) (test : Axis → Bool) → checked (on_each_axis (λ (a : Axis). at_place0 n (test a))) ≡ accepted tt → (a : Axis) → test a ≡ false
axes_pass n test h = elim [
  | X ↦ first_passes _ _ _ h
  | Y ↦ first_passes _ _ _ (rest_accepts _ _ _ h)
  | Z ↦ first_passes _ _ _ (rest_accepts _ _ _ (rest_accepts _ _ _ h))
]

-- An axis that is not refused is at most the largest.
axis_at_most : (n : ℕ) → bad_axis n ≡ false → n ≤ largest_axis
unfolding bad_axis
axis_at_most n h = split (eqb n 0) (λ t. let z = eqb-true n 0 t in omega arith) (λ f. ltb-false largest_axis n (rw f at h))

-- So a shape of such axes has at most 16,777,216 voxels.
shape_small : (shape : Point) → ((a : Axis) → along a shape ≤ largest_axis) → size shape ≤ most_voxels
unfolding size along
shape_small s h = mul-le-mul {n₂ = largest_axis * largest_axis} {m₂ = largest_axis} (mul-le-mul {n₂ = largest_axis} {m₂ = largest_axis} (h X) (h Y)) (h Z)

module _ (shape : Point) (lent : ℕ) (min max : Point) (passed : checked (bounds_checks lent shape min max) ≡ accepted tt) where
  -- Checks 1 to 5 have passed one by one: the first four,
  to_4 : (checked (bad_shape shape ++ few_voxels lent shape ++ min_above_max min max ++ max_past_shape shape max) ≡ accepted tt) × (checked (min_is_max min max) ≡ accepted tt)
  unfolding bounds_checks
  to_4 = both_pass (bad_shape shape ++ few_voxels lent shape ++ min_above_max min max ++ max_past_shape shape max) (min_is_max min max) passed

  -- the first three,
  to_3 : (checked (bad_shape shape ++ few_voxels lent shape ++ min_above_max min max) ≡ accepted tt) × (checked (max_past_shape shape max) ≡ accepted tt)
  to_3 = both_pass (bad_shape shape ++ few_voxels lent shape ++ min_above_max min max) (max_past_shape shape max) to_4.0

  -- the first two,
  to_2 : (checked (bad_shape shape ++ few_voxels lent shape) ≡ accepted tt) × (checked (min_above_max min max) ≡ accepted tt)
  to_2 = both_pass (bad_shape shape ++ few_voxels lent shape) (min_above_max min max) to_3.0

  -- and the first.
  to_1 : (checked (bad_shape shape) ≡ accepted tt) × (checked (few_voxels lent shape) ≡ accepted tt)
  to_1 = both_pass (bad_shape shape) (few_voxels lent shape) to_2.0

  -- No axis of the shape is above the largest,
  shape_at_most : (a : Axis) → along a shape ≤ largest_axis
  shape_at_most a = axis_at_most (along a shape) (axes_pass 1 (λ a. bad_axis (along a shape)) to_1.0 a)

  -- max lies in the shape,
  max_within : (a : Axis) → along a max < along a shape
  max_within a = leb-false (along a shape) (along a max) (axes_pass 4 (λ a. leb (along a shape) (along a max)) to_3.1 a)

  -- and so below the largest axis.
  pub max_below : (a : Axis) → along a max < largest_axis
  max_below a = omega (arith, shape_at_most a, max_within a)

  -- So this is what checks 1 to 5 leave.
  pub bounds_held : Held shape lent min max
  bounds_held = record {
    short = λ a. omega (arith, shape_at_most a);
    small = shape_small shape shape_at_most;
    enough = ltb-false lent (size shape) (first_passes _ _ _ to_1.1);
    spans = λ a.
        let below = ltb-false (along a max) (along a min) (axes_pass 3 (λ a. ltb (along a max) (along a min)) to_2.1 a) in
        let other = eqb-false (along a min) (along a max) (axes_pass 5 (λ a. eqb (along a min) (along a max)) to_4.1 a) in
        omega arith;
    within = max_within;
  }

-- What follows of a held box.
module _ (shape : Point) (lent : ℕ) (min max : Point) (h : Held shape lent min max) where
  some : (a : Axis) → 1 ≤ along a shape
  some a = omega (arith, h.within a)

  -- A slice has no more voxels than the shape,
  pub slice_small : shape.x * shape.y ≤ most_voxels
  unfolding size along
  slice_small = omega (arith, h.small, mul-one (shape.x * shape.y), mul-le-mul_left {m = 1} {n = shape.z} (shape.x * shape.y) (some Z))

  -- nor has an axis.
  pub axis_small : (a : Axis) → along a shape ≤ most_voxels
  unfolding size along
  axis_small = elim [
    | X ↦ omega (arith, slice_small, mul-one shape.x, mul-le-mul_left {m = 1} {n = shape.y} shape.x (some Y))
    | Y ↦ omega (arith, slice_small, one-mul shape.y, mul-le-mul_right {m = 1} {n = shape.x} shape.y (some X))
    | Z ↦ omega (arith, h.small, one-mul shape.z, mul-le-mul_right {m = 1} {n = shape.x * shape.y} shape.z (mul-le-mul {n₁ = 1} {m₁ = 1} (some X) (some Y)))
  ]

  pub max_small : (a : Axis) → along a max < most_voxels
  max_small a = omega (arith, h.within a, axis_small a)

  -- A stride fits 32 bits,
  pub stride_small : (a : Axis) → stride shape a ≤ most_voxels
  unfolding stride along
  stride_small = elim [ X ↦ omega arith | Y ↦ axis_small X | Z ↦ slice_small ]

  pub stride_fits : (a : Axis) → stride shape a % modulus ≡ stride shape a
  stride_fits a = mod-eq_of_lt (omega (arith, stride_small a))

  -- and so does an index.
  pub index_fits : (p : Point) → InShape shape p → index shape p % modulus ≡ index shape p
  index_fits p i = mod-eq_of_lt (omega (arith, h.small, index_below shape p i))

  -- The box lies in the shape: its minimum does.
  pub min_in_shape : InShape shape min
  min_in_shape a = omega (arith, h.spans a, h.within a)

  -- So the code's numbers, taken modulo 2 to the 32nd, are the index of the minimum and the strides.
  pub min_index : {i : ℕ} → i ≡ index shape min % modulus → i ≡ index shape min
  min_index e = e ∙ index_fits min min_in_shape

  pub stride_is : (a : Axis) {d : ℕ} → d ≡ stride shape a % modulus → d ≡ stride shape a
  stride_is a e = e ∙ stride_fits a

  -- Of the box, each point so many steps up from there, not past max.
  at_in_shape : (i j k : ℕ) → i ≤ max.x - min.x → j ≤ max.y - min.y → k ≤ max.z - min.z → InShape shape (at (min.x + i) (min.y + j) (min.z + k))
  unfolding along
  at_in_shape i j k hi hj hk = elim [ X ↦ omega (arith, h.spans X, h.within X) | Y ↦ omega (arith, h.spans Y, h.within Y) | Z ↦ omega (arith, h.spans Z, h.within Z) ]

  at_below : (i j k : ℕ) → i ≤ max.x - min.x → j ≤ max.y - min.y → k ≤ max.z - min.z
      → index shape min + k * stride shape Z + j * stride shape Y + i < size shape
  at_below i j k hi hj hk = omega (arith, index_at shape min i j k, index_below shape _ (at_in_shape i j k hi hj hk))

  -- So the rows of the box lie among the voxels lent.
  pub rows_lent : (k : ℕ) → k ≤ max.z - min.z
      → RowsLent lent (index shape min + k * stride shape Z) (max.x - min.x + 1) (stride shape Y) (max.y - min.y + 1)
  rows_lent k hk = record {
    each = λ j hj. omega (arith, h.enough, at_below (max.x - min.x) j k (omega arith) (omega arith) hk);
    last = omega (arith, h.small, stride_small Y, add-mul (max.y - min.y) 1 (stride shape Y), one-mul (stride shape Y), at_below 0 (max.y - min.y) k (omega arith) (omega arith) hk);
  }

  pub slices_lent : SlicesLent lent (index shape min) (max.x - min.x + 1) (stride shape Y) (max.y - min.y + 1) (stride shape Z) (max.z - min.z + 1)
  slices_lent = record {
    each = λ k hk. rows_lent k (omega arith);
    last = omega (arith, h.small, stride_small Z, add-mul (max.z - min.z) 1 (stride shape Z), one-mul (stride shape Z), zero-mul (stride shape Y), at_below 0 0 (max.z - min.z) (omega arith) (omega arith) (omega arith));
  }

  -- A check of each voxel of the box, by the voxels' indices;
  pub each_flat : (ask : ℕ → Check)
      → map (λ (p : Point). ask (index shape p)) (scan (box min max))
      ≡ slices (λ (i : ℕ). ask i ∷ []) (max.x - min.x + 1) (stride shape Y) (max.y - min.y + 1) (stride shape Z) (max.z - min.z + 1) (index shape min)
  unfolding along
  each_flat ask =
      let x : max.x + 1 - min.x ≡ max.x - min.x + 1 = omega (arith, h.spans X) in
      let y : max.y + 1 - min.y ≡ max.y - min.y + 1 = omega (arith, h.spans Y) in
      let z : max.z + 1 - min.z ≡ max.z - min.z + 1 = omega (arith, h.spans Z) in
      map_gathered (λ (p : Point). ask (index shape p)) (scan (box min max))
      ∙ rw (x, y, z) at (flat_scan shape (λ (p : Point). ask (index shape p) ∷ []) (λ (i : ℕ). ask i ∷ []) (box min max) (λ p i. refl))

  -- that of refusal 8.
  pub box_flat : (voxels : List ℕ)
      → bad_voxels voxels shape min max ≡ slices (bad_at voxels) (max.x - min.x + 1) (stride shape Y) (max.y - min.y + 1) (stride shape Z) (max.z - min.z + 1) (index shape min)
  unfolding bad_voxels
  box_flat voxels = each_flat (bad_voxel_at voxels)
