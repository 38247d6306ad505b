-- After an accepted entry no voxel that the loops read is bad: neither those of the interior's rows, nor, where the box spans its block along x, the two between a row and the next.
use mathlib.Core.List.{List}
use mathlib.Core.Path.{◌≡◌}
use Prim.Native.Nat.{ℕ, suc, ◌+◌, ◌*◌, ◌≤◌, ◌<◌}
use native.Mathlib.Nat.{add-zero, add-mul, one-mul, zero-mul}
use native.Mathlib.Omega.{arith}
use lib.ListN.{get_or}
use borrow.Author.Count.{below_none, below_more}
use Rattle.geometry.specs.declared.axis.Axis.TheVariants.{X, Y, Z}
use Rattle.geometry.specs.Point.{Point, at, along}
use Rattle.voxels.specs.declared.extent.Extent.{Extent}
use Rattle.voxels.specs.Voxel.{class}
use Rattle.voxels.specs.Shape.{index, stride}
use Rattle.voxels.specs.Extent.{interior}
use Rattle.voxels.specs.Entered.{Held, SoundAround, wide_of, high_of, deep_of}
use Rattle.voxels.proofs.Places.{index_at}
use Rattle.simple.specs.Ready.{NoneBad}

module _ (shape : Point) (lent : ℕ) (min max : Point) (h : Held shape lent min max) (vs : List ℕ) (sound : SoundAround vs shape (interior min max)) where
  abbrev inner : Extent
  inner = interior min max

  abbrev start : ℕ
  start = index shape inner.minimum

  -- A voxel so many steps up from the interior's minimum, not past the box.
  pub sound_at : (i j k : ℕ) → i ≤ wide_of inner → j ≤ high_of inner → k ≤ deep_of inner → class (get_or vs (start + k * stride shape Z + j * stride shape Y + i) 0) ≤ 2
  unfolding along
  sound_at i j k hi hj hk =
      rw (← index_at shape inner.minimum i j k)
      (sound (at (inner.minimum.x + i) (inner.minimum.y + j) (inner.minimum.z + k)) (elim [
        | X ↦ (omega arith, omega (arith, h.spans X))
        | Y ↦ (omega arith, omega (arith, h.spans Y))
        | Z ↦ (omega arith, omega (arith, h.spans Z))
      ]))

  -- The first voxel of a row of the box, a step below the interior.
  sound_before : (j k : ℕ) → j ≤ high_of inner → k ≤ deep_of inner → (m : ℕ) → m + 1 ≡ start + k * stride shape Z + j * stride shape Y → class (get_or vs m 0) ≤ 2
  unfolding along
  sound_before j k hj hk m e =
      let base : Point = at min.x inner.minimum.y inner.minimum.z in
      let one : start ≡ index shape base + 1 = rw (zero-mul (stride shape Z), zero-mul (stride shape Y), add-zero, add-zero, add-zero, add-zero) at (index_at shape base 1 0 0) in
      let here : index shape (at (min.x + 0) (inner.minimum.y + j) (inner.minimum.z + k)) ≡ m = omega (arith, index_at shape base 0 j k) in
      rw (← here)
      (sound (at (min.x + 0) (inner.minimum.y + j) (inner.minimum.z + k)) (elim [
        | X ↦ (omega arith, omega (arith, h.spans X))
        | Y ↦ (omega arith, omega (arith, h.spans Y))
        | Z ↦ (omega arith, omega (arith, h.spans Z))
      ]))

  -- So where rows are two voxels apart neither of those is bad.
  pub gap_good : (j k : ℕ) → suc j < high_of inner → k < deep_of inner → stride shape Y ≡ wide_of inner + 2 → NoneBad vs (start + k * stride shape Z + j * stride shape Y + wide_of inner) 2
  gap_good j k hj hk two =
      let good : ℕ → Type 0 = λ m. class (get_or vs (start + k * stride shape Z + j * stride shape Y + wide_of inner + m) 0) ≤ 2 in
      below_more good 1
      (below_more good 0 (below_none good) (rw add-zero (sound_at (wide_of inner) j k (omega arith) (omega arith) (omega arith))))
      (sound_before (j + 1) k (omega arith) (omega arith) _ (omega (arith, two, add-mul j 1 (stride shape Y), one-mul (stride shape Y))))
