-- The walk's rectangles: every voxel of one passes the test and is uniform with the first, so its picks are admissible; and it makes at most three tests for each voxel of one. A
-- row walk makes at most one test more than it got, and a row after the first at most the width.
use mathlib.Core.Bool.{true}
use mathlib.Core.List.{List}
use mathlib.Core.Path.{◌≡◌, refl}
use Prim.Native.Nat.{ℕ, zero, suc, ◌+◌, ◌-◌, ◌*◌, ◌≤◌, ◌<◌}
use native.Mathlib.Nat.{not-suc-le-zero}
use native.Mathlib.Numerals.{one-add}
use native.Mathlib.Omega.{arith}
use lib.Dec.{eqb}
use borrow.Author.Tests.{eqb-true, eq-eqb}
use Rattle.geometry.specs.declared.quad.UnorientedQuad.{UnorientedQuad}
use Rattle.geometry.specs.declared.face.OrientedBlockFace.{OrientedBlockFace}
use Rattle.geometry.specs.Point.{Point, along, moved}
use Rattle.geometry.specs.Axes.{u_axis, v_axis}
use Rattle.geometry.proofs.Refusals.{split}
use Rattle.geometry.proofs.Tests.{both_true}
use Rattle.geometry.proofs.Frame.{moved_none, moved_moved}
use Rattle.voxels.specs.Voxel.{merge_value, uniform}
use Rattle.voxels.specs.Shape.{Field}
use Rattle.rules.specs.Group.{passes, contains, quad_of}
use Rattle.rules.specs.Merger.{Walked, follows, walked, walked_rows, row_walk, rows_walk, voxel_merger}
use Rattle.rules.specs.Demand.{Uniform, area}
use Rattle.rules.specs.Choices.{Sound, Admissible}
use Rattle.rules.proofs.Contains.{contains_true, reached}

module _ (f : OrientedBlockFace) (v : Field) (qs : List UnorientedQuad) (first : Point) where
  -- A row walk from p on of at most so many voxels.
  pub record Row (p : Point) (most : ℕ) (w : Walked) : Type 0 where
    pub at_most : w.got ≤ most
    pub each : (i : ℕ) → i < w.got → follows f v qs first (moved (u_axis f) i p) ≡ true
    pub one_more : w.tests ≤ w.got + 1
    pub tests_most : w.tests ≤ most

  pub row_is : (p : Point) (most : ℕ) → Row p most (row_walk f v qs first p most)
  unfolding row_walk walked
  row_is p zero = record { at_most = omega arith; each = λ i l. absurd (not-suc-le-zero l); one_more = omega arith; tests_most = omega arith }
  row_is p (suc most) =
      let rest = row_is (moved (u_axis f) 1 p) most in
      split (follows f v qs first p)
      (λ t. rw (t, walked) (record {
        at_most = omega (arith, rest.at_most);
        each = elim [ zero ↦ λ l. rw moved_none t | suc i ↦ λ l. rw (← one-add i, ← moved_moved (u_axis f) 1 i p) (rest.each i (omega arith)) ];
        one_more = omega (arith, rest.one_more);
        tests_most = omega (arith, rest.tests_most);
      }))
      (λ n. rw (n, walked) (record { at_most = omega arith; each = λ i l. absurd (not-suc-le-zero l); one_more = omega arith; tests_most = omega arith }))

  -- It gets one where the first follows.
  pub row_some : (p : Point) (most : ℕ) → 1 ≤ most → follows f v qs first p ≡ true → 1 ≤ (row_walk f v qs first p most).got
  unfolding row_walk walked
  row_some p zero l t = absurd (not-suc-le-zero l)
  row_some p (suc most) l t = rw (t, walked) (omega arith)

  -- Whole rows from p on, at most so many.
  pub record Rows (width : ℕ) (p : Point) (most : ℕ) (h : Walked) : Type 0 where
    pub at_most : h.got ≤ most
    pub each : (i j : ℕ) → i < width → j < h.got → follows f v qs first (moved (u_axis f) i (moved (v_axis f) j p)) ≡ true
    pub row_more : h.tests ≤ width * h.got + width

  pub rows_are : (width : ℕ) (p : Point) (most : ℕ) → Rows width p most (rows_walk f v qs first width p most)
  unfolding rows_walk walked_rows
  rows_are width p zero = record { at_most = omega arith; each = λ i j l m. absurd (not-suc-le-zero m); row_more = omega arith }
  rows_are width p (suc most) =
      let row = row_is p width in
      let rest = rows_are width (moved (v_axis f) 1 p) most in
      split (eqb (row_walk f v qs first p width).got width)
      (λ t. rw (t, walked_rows) (record {
        at_most = omega (arith, rest.at_most);
        each = λ i. elim [
          | zero ↦ λ l m. rw moved_none (row.each i (omega (arith, eqb-true (row_walk f v qs first p width).got width t)))
          | suc j ↦ λ l m. rw (← one-add j, ← moved_moved (v_axis f) 1 j p) (rest.each i j l (omega arith))
        ];
        row_more = omega (arith, rest.row_more, row.tests_most);
      }))
      (λ n. rw (n, walked_rows) (record { at_most = omega arith; each = λ i j l m. absurd (not-suc-le-zero m); row_more = omega (arith, row.tests_most) }))

module _ (f : OrientedBlockFace) (v : Field) (qs : List UnorientedQuad) (p : Point) (wide high : ℕ) where
  -- The first voxel of a walk follows itself.
  itself_follows : passes f v qs p ≡ true → follows f v qs p p ≡ true
  unfolding follows uniform
  itself_follows e = rw (e, eq-eqb (merge_value (v p)) _ refl)

  -- Every voxel of the walk's rectangle follows the first,
  steps_follow : (i j : ℕ) → i < (voxel_merger f v qs p wide high).width → j < (voxel_merger f v qs p wide high).height
      → follows f v qs p (moved (u_axis f) i (moved (v_axis f) j p)) ≡ true
  unfolding voxel_merger
  steps_follow i zero l m = rw moved_none ((row_is f v qs p p wide).each i l)
  steps_follow i (suc j) l m =
      rw (← one-add j, ← moved_moved (v_axis f) 1 j p)
      ((rows_are f v qs p (row_walk f v qs p p wide).got (moved (v_axis f) 1 p) (high - 1)).each i j l (omega arith))

  all_follow : (x : Point) → contains f (quad_of p (voxel_merger f v qs p wide high)) x ≡ true → follows f v qs p x ≡ true
  all_follow x e =
      let q : UnorientedQuad = quad_of p (voxel_merger f v qs p wide high) in
      let i = contains_true f q x e in
      rw (reached f q x i) at (steps_follow (along (u_axis f) x - along (u_axis f) p) (along (v_axis f) x - along (v_axis f) p) (omega arith) (omega arith))

  -- so that all of them may share a quad.
  pub walk_uniform : Uniform f v (quad_of p (voxel_merger f v qs p wide high))
  unfolding follows
  walk_uniform x e = (both_true (passes f v qs x) _ (all_follow x e)).1

  -- A rectangle takes at most three tests a voxel.
  pub walk_cheap : passes f v qs p ≡ true → 1 ≤ wide → (voxel_merger f v qs p wide high).tests ≤ 3 * area (quad_of p (voxel_merger f v qs p wide high))
  unfolding voxel_merger
  walk_cheap e w =
      let width : ℕ = (row_walk f v qs p p wide).got in
      omega (arith, (row_is f v qs p p wide).one_more, (rows_are f v qs p width (moved (v_axis f) 1 p) (high - 1)).row_more, row_some f v qs p p wide w (itself_follows e))

  pub walk_admissible : passes f v qs p ≡ true → 1 ≤ wide → 1 ≤ high → Admissible f v qs p wide high (voxel_merger f v qs p wide high)
  unfolding voxel_merger follows
  walk_admissible e w h =
      record {
        some_width = row_some f v qs p p wide w (itself_follows e);
        some_height = omega arith;
        width_fits = (row_is f v qs p p wide).at_most;
        height_fits = omega (arith, (rows_are f v qs p (row_walk f v qs p p wide).got (moved (v_axis f) 1 p) (high - 1)).at_most);
        passing = λ x k. (both_true _ (uniform (v p) (v x)) (all_follow x k)).0;
      }

-- The walk's picks are admissible.
pub walk_sound : (f : OrientedBlockFace) (v : Field) → Sound f v (voxel_merger f v)
walk_sound f v qs p wide high = walk_admissible f v qs p wide high
