-- The walk by indices, as the code makes it: what passes and what is left make the whole; and the tests of voxels.
use mathlib.Core.Bool.{Bool, true, false}
use mathlib.Core.List.{List}
use mathlib.Core.Path.{◌≡◌, sym, ◌∙◌, ap}
use Prim.Native.Nat.{ℕ, zero, suc, ◌+◌, ◌-◌, ◌*◌, ◌≤◌, ◌<◌}
use native.Mathlib.Nat.{add-zero, zero-add, add_assoc, sub-zero, zero-mul, one-mul, suc-mul, mul-le-mul_right}
use native.Mathlib.Omega.{arith}
use lib.Dec.{eqb}
use lib.ListN.{get_or}
use borrow.Author.Tests.{eq-eqb, ne_eqb}
use Rattle.geometry.proofs.Refusals.{split}
use Rattle.voxels.specs.Voxel.{class, shows, uniform}
use Rattle.voxels.specs.Visible.{modulus, offset_index}
use Rattle.voxels.specs.Loop.{step_by}
use Rattle.voxels.proofs.Loops.{more, stride_more}
use Rattle.rules.specs.Merger.{Walked, walk, pick, walked, walked_rows}
use Rattle.rules.proofs.Walks.{after, after_rows, walk_passes, walk_fails, rows_whole, rows_broken, walked_at_most}
use Rattle.greedy.specs.Walks.{needs_at, joins_at, row_at, quad_at, WalkReady, QuadReady}

-- A walk by a stride, of which the first k voxels pass.
module _ (ok : ℕ → Bool) (d i : ℕ) where
  abbrev Passed : ℕ → Type 0
  Passed k = (h : ℕ) → h < k → ok (i + h * d) ≡ true

  -- What is left of it comes after them.
  walk_past : (k most : ℕ) → k ≤ most → Passed k → walked ok (step_by d) i most ≡ after k (walked ok (step_by d) (i + k * d) (most - k))
  walk_past zero most h passed = rw (zero-mul, add-zero, sub-zero, zero-add, zero-add)
  walk_past (suc k) most h passed =
      let before = walk_past k most (omega arith) (λ m l. passed m (omega arith)) in
      let left : most - k ≡ suc (most - suc k) = omega arith in
      let place : i + k * d + d ≡ i + suc k * d = omega (arith, suc-mul k d) in
      let w : Walked = walked ok (step_by d) (i + suc k * d) (most - suc k) in
      let here : walked ok (step_by d) (i + k * d) (most - k) ≡ after 1 w = rw (left, walk_passes ok (step_by d) (i + k * d) (most - suc k) (passed k (omega arith)), place) in
      let got : k + (1 + w.got) ≡ suc k + w.got = omega arith in
      let tests : k + (1 + w.tests) ≡ suc k + w.tests = omega arith in
      before ∙ rw (here, got, tests)

  -- So it ends where one fails,
  pub walk_stops : (k most : ℕ) → k < most → Passed k → ok (i + k * d) ≡ false → walk k (k + 1) ≡ walked ok (step_by d) i most
  walk_stops k most h passed fails =
      let some : most - k ≡ suc (most - (k + 1)) = more k most h in
      sym (walk_past k most (omega arith) passed ∙ rw (some, walk_fails ok (step_by d) (i + k * d) (most - (k + 1)) fails, add-zero))

  -- or where there are no more.
  pub walk_done : (k most : ℕ) → most ≤ k → Passed k → walk most most ≡ walked ok (step_by d) i most
  unfolding walked
  walk_done k most h passed =
      let none : most - most ≡ zero = omega arith in
      sym (walk_past most most (omega arith) (λ m l. passed m (omega arith)) ∙ rw (none, add-zero))

-- The walk over the rows a stride apart, from the k-th of most on.
abbrev pub rows_left : (ℕ → Walked) → ℕ → ℕ → ℕ → ℕ → ℕ → Walked
rows_left row width d i k most = walked_rows row width (step_by d) (i + k * d) (most - k)

-- A loop over them after the first, k whole ones by now: with what is left they make the walk, and each took few tests.
pub record Rows (row : ℕ → Walked) (width d i most first k tests : ℕ) : Type 0 where
  pub few : tests ≤ k * modulus
  pub whole : after_rows k tests (rows_left row width d i k most) ≡ after_rows 1 first (rows_left row width d i 1 most)

module _ {row : ℕ → Walked} {width d i most first k t : ℕ} (l : Rows row width d i most first k t) where
  module _ (r : Walked) (h : k < most) (is : r ≡ row (i + k * d)) where
    -- A whole row is one more,
    pub rows_on : r.got ≡ width → r.tests < modulus → Rows row width d i most first (k + 1) (t + r.tests)
    rows_on e small =
        let place : i + k * d + d ≡ i + (k + 1) * d = omega (arith, stride_more k d) in
        record {
          few = omega (arith, l.few);
          whole = rw (is, add_assoc, add_assoc) (rw (more k most h, rows_whole row width (step_by d) (i + k * d) (most - (k + 1)) (ap (λ (x : Walked). x.got) (sym is) ∙ e), place) at l.whole);
        }

    -- another ends the walk,
    pub rows_stop : (r.got ≡ width → ⊥) → walk k (t + r.tests) ≡ after_rows 1 first (rows_left row width d i 1 most)
    rows_stop other =
        rw is (rw (add-zero) at (rw (more k most h, rows_broken row width (step_by d) (i + k * d) (most - (k + 1)) (λ e. other (ap (λ (x : Walked). x.got) is ∙ e))) at l.whole))

  -- and so does the last.
  pub rows_done : k ≡ most → walk most t ≡ after_rows 1 first (rows_left row width d i 1 most)
  unfolding walked_rows
  rows_done e =
      let none : most - k ≡ zero = omega arith in
      let stay : walk k t ≡ after_rows k t (walked_rows row width (step_by d) (i + k * d) zero) = rw (add-zero, add-zero) in
      rw e at (stay ∙ rw none at l.whole)

-- ---- tests

module _ (vs marks : List ℕ) (offset i : ℕ) where
  -- An empty voxel needs no mesh,
  pub empty_not : {own : ℕ} → own ≡ class (get_or vs i 0) → own ≡ 0 → false ≡ needs_at vs marks offset i
  unfolding needs_at shows
  empty_not is e = split (eqb (get_or marks i 0) 0) (λ t. rw (t, eq-eqb (class (get_or vs i 0)) 0 (sym is ∙ e))) (λ f. rw f)

  -- nor does a visited one, and another needs one where it shows its face.
  pub visited_not : (get_or marks i 0 ≡ 0 → ⊥) → false ≡ needs_at vs marks offset i
  unfolding needs_at
  visited_not d = rw (ne_eqb (get_or marks i 0) 0 d)

  pub shows_needs : (j : ℕ) {r : Bool} → get_or marks i 0 ≡ 0 → j ≡ offset_index i offset → r ≡ shows (get_or vs i 0) (get_or vs j 0) → r ≡ needs_at vs marks offset i
  unfolding needs_at
  shows_needs j e is h = rw (eq-eqb (get_or marks i 0) 0 e, ← is) h

  -- A voxel joins a row where it needs a mesh and is uniform with the first.
  module _ (first : ℕ) {r : Bool} (is : r ≡ needs_at vs marks offset i) where
    pub unneeded_not : r ≡ false → joins_at vs marks offset first i ≡ false
    unfolding joins_at
    unneeded_not e = rw (← is, e)

    pub joins_by : r ≡ true → {u : Bool} → u ≡ uniform first (get_or vs i 0) → joins_at vs marks offset first i ≡ u
    unfolding joins_at
    joins_by e h = rw (← is, e, ← h)

-- ---- a rectangle

-- A row by indices is not wider than asked.
pub row_at_most : (vs marks : List ℕ) (off first d most i : ℕ) {w : Walked} → w ≡ row_at vs marks off first d most i → w.got ≤ most
unfolding row_at
row_at_most vs marks off first d most i e = rw e (walked_at_most (joins_at vs marks off first) (step_by d) most i)

-- Part of a row is ready where the row is.
pub row_less : {vn mn off i d : ℕ} (m n : ℕ) → m ≤ n → WalkReady vn mn off i d n → WalkReady vn mn off i d m
row_less {d = d} m n le l = record { each = λ k lt. l.each k (omega arith); last = omega (arith, l.last, mul-le-mul_right {m = m} {n = n} d le) }

module _ (vn mn off i du wide dv high : ℕ) (ready : QuadReady vn mn off i du wide dv high) where
  -- The first row of a rectangle is ready,
  pub first_row : WalkReady vn mn off i du wide
  first_row = rw (zero-mul, add-zero) at (ready.each 0 ready.high_some)

  -- and so is each row, in part.
  pub next_row : (w k : ℕ) → w ≤ wide → k < high → WalkReady vn mn off (i + k * dv) du w
  next_row w k le h = row_less w wide le (ready.each k h)

-- The rectangle from its first row and the rows after it.
pub quad_from_lem : (vs marks : List ℕ) (off du dv wide high i : ℕ) (w : Walked) (k t : ℕ)
    → w ≡ row_at vs marks off (get_or vs i 0) du wide i
    → walk k t ≡ after_rows 1 w.tests (rows_left (row_at vs marks off (get_or vs i 0) du w.got) w.got dv i 1 high)
    → pick w.got k t ≡ quad_at vs marks off du dv wide high i
unfolding quad_at
quad_from_lem vs marks off du dv wide high i w k t is at_one =
    let e = rw one-mul at at_one in
    rw (← is, ap (λ (x : Walked). x.got) e, ap (λ (x : Walked). x.tests) e)
