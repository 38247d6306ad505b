-- The rectangle that the walk picks, by indices: how large it is, how many tests it takes, and that its marks were lent.
use mathlib.Core.Bool.{Bool}
use mathlib.Core.List.{List}
use mathlib.Core.Path.{◌≡◌, refl, ◌∙◌, ap}
use Prim.Native.Nat.{ℕ, ◌+◌, ◌-◌, ◌*◌, ◌≤◌, ◌<◌}
use native.Mathlib.Nat.{add-zero, zero-mul, suc-mul, mul-le-mul_right}
use native.Mathlib.Omega.{arith}
use lib.ListN.{get_or}
use Rattle.geometry.specs.Point.{Point}
use Rattle.voxels.specs.Entered.{longest}
use Rattle.voxels.specs.Loop.{step_by}
use Rattle.rules.specs.Group.{Pick}
use Rattle.rules.specs.Merger.{Walked, walked}
use Rattle.rules.proofs.Walks.{walked_at_most, walked_tests, rows_at_most, rows_tests}
use Rattle.greedy.specs.Walks.{joins_at, Touches, row_at, quad_at, QuadReady}
use Rattle.greedy.specs.Marks.{RowMarked, QuadMarked}
use Rattle.greedy.specs.Scans.{room_to, SpotReady, voxel_tests}
use Rattle.greedy.proofs.Walks.{row_at_most, row_less, first_row}
use Rattle.greedy.specs.declared.face_scan.FaceScan.{FaceScan}

module _ (vs marks : List ℕ) (off du dv wide high i : ℕ) {q : Pick} (is : q ≡ quad_at vs marks off du dv wide high i) where
  -- A rectangle is not wider than asked,
  pub quad_wide : q.width ≤ wide
  unfolding quad_at
  quad_wide = rw is (row_at_most vs marks off (get_or vs i 0) du wide i refl)

  -- nor higher,
  pub quad_high : 0 < high → q.height ≤ high
  unfolding quad_at
  quad_high h =
      let w : Walked = row_at vs marks off (get_or vs i 0) du wide i in
      rw is (omega (arith, rows_at_most (row_at vs marks off (get_or vs i 0) du w.got) w.got (step_by dv) (high - 1) (i + dv)))

  -- and it takes no more tests than the whole has voxels.
  quad_tests : 0 < high → q.tests ≤ high * wide
  unfolding quad_at row_at
  quad_tests h =
      let ok : ℕ → Bool = joins_at vs marks off (get_or vs i 0) in
      let w : Walked = walked ok (step_by du) i wide in
      let got : w.got ≤ wide = walked_at_most ok (step_by du) wide i in
      let each : (j : ℕ) → (walked ok (step_by du) j w.got).tests ≤ wide = λ j. omega (arith, walked_tests ok (step_by du) w.got j) in
      let rest = rows_tests (λ (j : ℕ). walked ok (step_by du) j w.got) w.got (step_by dv) wide each (high - 1) (i + dv) in
      let whole : high * wide ≡ (high - 1) * wide + wide = ap (λ (k : ℕ). k * wide) (omega arith) ∙ suc-mul (high - 1) wide in
      rw is (omega (arith, walked_tests ok (step_by du) wide i))

-- The marks of part of a rectangle were lent where those of the whole were.
quad_marked : (vn mn off i du wide dv high w h : ℕ) → QuadReady vn mn off i du wide dv high → wide ≤ longest → high ≤ longest → w ≤ wide → h ≤ high → QuadMarked mn du w dv h i
quad_marked vn mn off i du wide dv high w h ready sw sh lw lh =
    let row : (k : ℕ) → k < high → RowMarked mn du w k (i + k * dv) =
    λ k lt. let r = row_less w wide lw (ready.each k lt) in record { each = λ j below. (r.each j below).mark; last = r.last; end = omega arith } in
    record { each = λ k lt. row k (omega arith); last = omega (arith, ready.last, mul-le-mul_right {m = h} {n = high} dv lh); end = omega arith }

-- ---- a rectangle at a point of a scan

-- Its test reads what was lent.
pub spot_touches : {vn mn : ℕ} (c : FaceScan) (p : Point) (i : ℕ) → SpotReady vn mn c p i → Touches vn mn c.strides.visibility_offset.0 i
spot_touches c p i ready = rw (zero-mul, add-zero) at ((first_row _ _ _ _ _ _ _ _ ready.quad).each 0 ready.quad.wide_some)

-- The rectangle that is picked at a point and its index.
abbrev pub picked_at : List ℕ → List ℕ → FaceScan → Point → ℕ → Pick
picked_at vs marks c p i = quad_at vs marks c.strides.visibility_offset.0 c.strides.u_stride.0 c.strides.v_stride.0 (room_to c.axes.u c.bound p) (room_to c.axes.v c.bound p) i

module _ {vn mn : ℕ} (vs marks : List ℕ) (c : FaceScan) (p : Point) (i : ℕ) (ready : SpotReady vn mn c p i) {q : Pick} (is : q ≡ picked_at vs marks c p i) where
  -- Its marks were lent,
  pub picked_marked : QuadMarked mn c.strides.u_stride.0 q.width c.strides.v_stride.0 q.height i
  picked_marked =
      quad_marked _ _ _ _ _ _ _ _ _ _ ready.quad ready.wide_short ready.high_short (quad_wide vs marks _ _ _ _ _ i is) (quad_high vs marks _ _ _ _ _ i is ready.quad.high_some)

  -- and it takes few tests.
  pub picked_tests : q.tests < voxel_tests
  picked_tests =
      let wide : ℕ = room_to c.axes.u c.bound p in
      let high : ℕ = room_to c.axes.v c.bound p in
      omega (arith, quad_tests vs marks _ _ _ _ _ i is ready.quad.high_some, mul-le-mul_right {m = high} {n = longest} wide ready.high_short, ready.wide_short)
