-- The sweep, slice after slice, goes through the points of the extent: each lies in it, none is left out, and there are as many as in scan order.
use mathlib.Core.Path.{◌≡◌, sym, ◌∙◌}
use Prim.Native.Nat.{ℕ, ◌+◌, ◌-◌, ◌*◌, ◌≤◌, ◌<◌}
use native.Mathlib.Nat.{one-mul, add-sub_cancel_left}
use native.Mathlib.Omega.{arith}
use lib.ListN.{length}
use Rattle.geometry.specs.declared.axis.Axis.{Axis}
use Rattle.geometry.specs.declared.face.OrientedBlockFace.{OrientedBlockFace}
use Rattle.geometry.specs.Point.{Point, along, put}
use Rattle.geometry.specs.Axes.{n_axis, u_axis, v_axis}
use Rattle.geometry.specs.Lists.{Each}
use Rattle.geometry.proofs.Frame.{put_on, put_off, this_or_other, frame}
use Rattle.geometry.proofs.Lists.{each_up}
use Rattle.voxels.specs.Extent.{Inside, scan}
use Rattle.voxels.proofs.Scan.{each_every, every_each, scan_inside, inside_scan}
use Rattle.rules.specs.Group.{slice_at, sweep}
use Rattle.rules.specs.Demand.{points}
use Rattle.rules.proofs.Counts.{span, every_length, scan_length}
use Rattle.voxels.specs.declared.extent.Extent.{Extent}

module _ (a : Axis) (e : Extent) where
  -- A slice lies in the extent,
  slice_inside : (k : ℕ) → along a e.minimum ≤ k → k < along a e.bound → (p : Point) → Inside (slice_at a e k) p → Inside e p
  unfolding slice_at
  slice_inside k lo hi p i =
      this_or_other a (λ (b : Axis). (along b e.minimum ≤ along b p) × (along b p < along b e.bound))
      (let here = simp put_on at (i a) in (omega arith, omega arith))
      (λ b o. simp (put_off b a o) at (i b))

  -- and a point of the extent in the slice of its own coordinate.
  inside_slice : (p : Point) → Inside e p → Inside (slice_at a e (along a p)) p
  unfolding slice_at
  inside_slice p i =
      this_or_other a (λ (b : Axis). (along b (put a (along a p) e.minimum) ≤ along b p) × (along b p < along b (put a (along a p + 1) e.bound)))
      (simp put_on (omega arith, omega arith))
      (λ b o. simp (put_off b a o) (i b))

  -- Every point of the sweep lies in the extent,
  pub sweep_inside : Each (Inside e) (sweep a e)
  unfolding sweep
  sweep_inside =
      each_every (Inside e) _ _ _ (λ k h. each_up _ (Inside e) (slice_inside (along a e.minimum + k) (omega arith) (omega arith)) _ (scan_inside (slice_at a e (along a e.minimum + k))))

  -- and every point of the extent is in the sweep.
  pub inside_sweep : (P : Point → Type 0) → Each P (sweep a e) → (p : Point) → Inside e p → P p
  unfolding sweep
  inside_sweep P h p i =
      let lies = i a in
      let here : along a e.minimum + (along a p - along a e.minimum) ≡ along a p = omega arith in
      inside_scan P (slice_at a e (along a p)) (rw here at (every_each P (λ (k : ℕ). scan (slice_at a e k)) _ _ h (along a p - along a e.minimum) (omega arith))) p (inside_slice p i)

-- It has as many points as the scan: its slices are alike, one voxel deep on n.
pub sweep_length : (f : OrientedBlockFace) (e : Extent) → length (sweep (n_axis f) e) ≡ points e
unfolding sweep slice_at
sweep_length f e =
    let F = frame f.permutation in
    every_length _ (span e (u_axis f) * span e (v_axis f)) _ _ (λ k.
    scan_length (slice_at (n_axis f) e k) ∙ F.product (span (slice_at (n_axis f) e k))
    ∙ simp (put_on, put_off (u_axis f) (n_axis f) F.un, put_off (v_axis f) (n_axis f) F.vn, add-sub_cancel_left) (one-mul _))
    ∙ sym (scan_length e ∙ F.product (span e))
