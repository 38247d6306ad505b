-- Sums over indices a stride apart: of rows and what lies between them, of what the loops count, and how many quads are listed.
use mathlib.Core.Bool.{Bool, true, false}
use mathlib.Core.List.{List}
use mathlib.Core.Path.{◌≡◌, refl}
use Prim.Native.Nat.{ℕ, zero, suc, ◌+◌, ◌*◌, ◌≤◌, ◌<◌}
use native.Mathlib.Nat.{zero-add, suc-add, zero-mul, suc-mul, mul-one, mul-le-mul_left}
use native.Mathlib.Omega.{arith}
use lib.ListN.{length, get_or}
use Rattle.geometry.specs.Axes.{bit}
use Rattle.geometry.specs.Point.{Point, at}
use Rattle.geometry.proofs.Tests.{bit_at_most}
use Rattle.voxels.specs.Voxel.{shows}
use Rattle.voxels.specs.Visible.{offset_index}
use Rattle.voxels.specs.Loop.{looped, step_by, summed, stand, on_by, in_step}
use Rattle.voxels.specs.Rows.{kept_if}
use Rattle.voxels.proofs.Loops.{onward_by, onward_both, sums_join, loop_parts, loop_more, loop_length, sum_at_most}
use Rattle.simple.specs.declared.rows.Rows.{Rows}
use Rattle.simple.specs.declared.rows.Slices.{Slices}
use Rattle.simple.specs.Ready.{shows_at, RowReady, RowsReady, reach}
use Rattle.simple.specs.Count.{shown_at, row_shown, rows_shown, slices_shown}
use Rattle.simple.specs.List.{voxel_quad, row_quads, rows_quads, slices_quads}
use Rattle.simple.proofs.Neighbours.{beyond_at}

-- ---- a run and its rows

-- A run is the rows that lie in it, a stride apart, and what lies between them.
pub flat_sum : (g : ℕ → ℕ) (wide gap d : ℕ) → d ≡ wide + gap → (h i : ℕ)
    → summed g 1 i (h * d + wide) ≡ summed (λ (j : ℕ). summed g 1 j wide) d i (h + 1) + summed (λ (j : ℕ). summed g 1 j gap) d (i + wide) h
unfolding looped
flat_sum g wide gap d is zero i = rw (zero-mul, zero-add) (omega arith)
flat_sum g wide gap d is (suc h) i =
    let long : suc h * d + wide ≡ wide + (gap + (h * d + wide)) = omega (arith, suc-mul h d) in
    let next : i + wide + gap ≡ i + d = omega arith in
    let after : i + wide + d ≡ i + d + wide = omega arith in
    rw (long, loop_parts sums_join (step_by 1) g wide (gap + (h * d + wide)) i, loop_parts sums_join (step_by 1) g gap (h * d + wide), onward_by, onward_by, mul-one, mul-one, next, suc-add h 1, after, flat_sum g wide gap d is h (i + d)) (omega arith)

-- ---- what the loops count

module _ (vs : List ℕ) (o : ℕ) where
  -- A voxel shows one face to a neighbour at most,
  pub voxel_at_most : (i : ℕ) → shown_at vs o i ≤ 1
  unfolding shown_at
  voxel_at_most i = bit_at_most (shows_at vs o i)

  -- a row as many as it has voxels,
  pub row_at_most : (wide i : ℕ) → row_shown vs o wide i ≤ wide
  unfolding row_shown
  row_at_most wide i = omega (arith, sum_at_most (step_by 1) (shown_at vs o) 1 wide i voxel_at_most, mul-one wide)

  -- rows,
  pub rows_at_most : (rows : Rows) (i : ℕ) → rows_shown vs o rows i ≤ rows.high * rows.wide
  unfolding rows_shown
  rows_at_most rows i = sum_at_most (step_by rows.stride.0) (row_shown vs o rows.wide) rows.wide rows.high i (row_at_most rows.wide)

  -- which is no more than they reach over,
  pub rows_reach : {lent : List ℕ} {offset j : ℕ} {rows : Rows} → RowsReady lent offset j rows → (i : ℕ) → rows_shown vs o rows i ≤ reach rows
  rows_reach {rows = rows} ready i = omega (arith, rows_at_most rows i, mul-le-mul_left {m = rows.wide} {n = rows.stride.0} rows.high ready.steps.apart)

  -- and slices.
  pub slices_at_most : (slices : Slices) (i : ℕ) → slices_shown vs o slices i ≤ slices.deep * (slices.rows.high * slices.rows.wide)
  unfolding slices_shown
  slices_at_most slices i = sum_at_most (step_by slices.stride.0) (rows_shown vs o slices.rows) (slices.rows.high * slices.rows.wide) slices.deep i (rows_at_most slices.rows)

  -- One more voxel of a row, whose neighbour is as far from the first's.
  pub row_next : {i wide j : ℕ} → RowReady vs o i wide → j ≡ offset_index i o → (k : ℕ) → k < wide → {c s : ℕ} → c ≡ row_shown vs o k i → s ≡ bit (shows (get_or vs (i + k) 0) (get_or vs (j + k) 0)) → c + s ≡ row_shown vs o (k + 1) i
  unfolding row_shown shown_at shows_at
  row_next {i} {wide} ready at_j k h is e = rw (is, e, loop_more sums_join (step_by 1) (shown_at vs o) k i, onward_by 1 i k, mul-one k, at_j, beyond_at vs o i wide ready k h)

-- ---- how many quads are listed

-- As many as each index has, summed.
pub in_step_length : {A : Type 0} (d : ℕ) (g : ℕ → ℕ → List A) (h : ℕ → ℕ) → ((a i : ℕ) → length (g a i) ≡ h i) → (n a i : ℕ) → length (in_step d g a i n) ≡ summed h d i n
in_step_length d g h is n a i = loop_length (on_by d) _ (step_by d) h n (stand a i) i (λ k l. rw (onward_both d a i k, onward_by d i k) (is (a + k) (i + k * d)))

-- What is kept is one or none.
kept_length : {A : Type 0} (b : Bool) (a : A) → length (kept_if b a) ≡ bit b
kept_length true a = refl
kept_length false a = refl

module _ (vs : List ℕ) (o : ℕ) where
  -- Of a voxel,
  pub voxel_length : (p : Point) (i : ℕ) → length (voxel_quad vs o p i) ≡ shown_at vs o i
  unfolding voxel_quad shown_at
  voxel_length p i = kept_length (shows_at vs o i) p

  -- a row,
  pub row_length : (wide : ℕ) (p : Point) (i : ℕ) → length (row_quads vs o wide p i) ≡ row_shown vs o wide i
  unfolding row_quads row_shown
  row_length wide p i = in_step_length 1 _ (shown_at vs o) (λ x. voxel_length (at x p.y p.z)) wide p.x i

  -- rows
  pub rows_length : (rows : Rows) (p : Point) (i : ℕ) → length (rows_quads vs o rows p i) ≡ rows_shown vs o rows i
  unfolding rows_quads rows_shown
  rows_length rows p i = in_step_length rows.stride.0 _ (row_shown vs o rows.wide) (λ y. row_length rows.wide (at p.x y p.z)) rows.high p.y i

  -- and slices.
  pub slices_length : (slices : Slices) (p : Point) (i : ℕ) → length (slices_quads vs o slices p i) ≡ slices_shown vs o slices i
  unfolding slices_quads slices_shown
  slices_length slices p i = in_step_length slices.stride.0 _ (rows_shown vs o slices.rows) (λ z. rows_length slices.rows (at p.x p.y z)) slices.deep p.z i
