-- Rows of voxels: rows that touch are one row, and a row passes where its greatest voxel is not bad.
use Rattle.std.proofs.Common.{◌≡◌, ℕ, zero, suc, ◌+◌, ◌*◌, ◌<◌, ◌≤◌, eqb, List, ◌++◌, get_or, sym, refl, ap, mul-zero, mul-one, arith, eqb-true}
use borrow.Author.Tests.{eqb-false}
use Rattle.geometry.specs.Refusal.{accepted, Check, answer, checked}
use Rattle.geometry.proofs.Refusals.{split}
use Rattle.geometry.proofs.Orders.{part_passes}
use Rattle.voxels.specs.Voxel.{class}
use Rattle.voxels.specs.Loop.{looped, step_by, every}
use Rattle.voxels.specs.Entered.{most_voxels}
use Rattle.voxels.specs.Rows.{bad_at, row, rows, AtMost, RowLent, RowsLent}
use Rattle.voxels.proofs.Loops.{onward_by, loop_keeps, lists_join, loop_parts}
use Rattle.voxels.proofs.Asked.{good_here}

-- ---- rows that touch

-- Rows that touch are one row.
rows_touch : {A : Type 0} (g : ℕ → List A) (wide high i : ℕ) → row g (wide * high) i ≡ rows g wide wide high i
unfolding row rows looped
rows_touch g wide zero i = rw mul-zero
rows_touch g wide (suc high) i =
    let e : wide * suc high ≡ wide + wide * high = omega arith in
    rw (e, loop_parts lists_join (step_by 1) g wide (wide * high) i, onward_by 1 i wide, mul-one) (ap (λ (r : List _). every 1 i wide g ++ r) (rows_touch g wide high (i + wide)))

module _ (wide d : ℕ) (touch : wide ≡ d) where
  pub touching : {A : Type 0} (g : ℕ → List A) (high i : ℕ) → row g (wide * high) i ≡ rows g wide d high i
  touching g high i = rw (← touch) (rows_touch g wide high i)

  -- Its voxels were lent, and are so few that their number fits.
  pub touching_lent : (lent i high : ℕ) → RowsLent lent i wide d high → RowLent lent i (wide * high)
  touching_lent lent i zero h k l = omega (arith, mul-zero wide)
  touching_lent lent i (suc high) h k l = omega (arith, h.each high (omega arith), ap (λ (n : ℕ). high * n) touch)

  pub touching_few : (lent i high : ℕ) → RowsLent lent i wide d high → wide * high ≤ 2 * most_voxels
  touching_few lent i high h = omega (arith, h.last, ap (λ (n : ℕ). high * n) touch)

-- ---- the greatest voxel

-- One more voxel, not greater than the greatest.
pub most_on : (vs : List ℕ) (i k most next : ℕ) → AtMost vs i k most → most ≤ next → get_or vs (i + k) 0 ≤ next → AtMost vs i (k + 1) next
most_on vs i k most next low grown here j l =
    split (eqb j k)
    (λ t. rw (eqb-true j k t) here)
    (λ f. let other = eqb-false j k f in omega (arith, low j (omega arith)))

-- A row passes where no voxel of it is greater than one that is not bad.
pub low_passes : (vs : List ℕ) (most wide i : ℕ) {c : ℕ} → c ≡ class most → c < 3 → AtMost vs i wide most → checked (row (bad_at vs) wide i) ≡ accepted tt
unfolding row answer class
low_passes vs most wide i is good low =
    loop_keeps (λ (cs : List Check). checked cs ≡ accepted tt) refl (λ cs ds first rest. sym (part_passes cs ds tt first (sym rest))) (step_by 1) (bad_at vs) wide i
    (λ k l. rw (onward_by 1 i k, mul-one) (good_here vs (i + k) refl (λ e. omega (arith, low k l))))
