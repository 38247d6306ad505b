-- An accepted call's face: all that its scan reads was lent, its tests are few, and what the scan makes is the face's group.
use mathlib.Core.List.{List}
use mathlib.Core.Path.{◌≡◌, refl, sym, ◌∙◌, ap}
use Prim.Native.Nat.{ℕ, ◌+◌, ◌-◌, ◌*◌, ◌%◌, ◌≤◌, ◌<◌}
use native.Mathlib.Nat.{add-zero, zero-mul, mul_assoc, mul_comm, mul-le-mul, mul-le-mul_right}
use native.Mathlib.Omega.{arith}
use lib.ListN.{length, drop, replicate}
use Rattle.geometry.specs.declared.axis.Axis.{Axis}
use Rattle.geometry.specs.declared.axis.Axis.TheVariants.{X, Y, Z}
use Rattle.geometry.specs.declared.axis.Axes.{Axes}
use Rattle.geometry.specs.declared.face.OrientedBlockFace.{OrientedBlockFace}
use Rattle.geometry.specs.Point.{Point, along}
use Rattle.geometry.specs.Axes.{positive, axes_of, n_axis, u_axis, v_axis}
use Rattle.geometry.proofs.Frame.{frame}
use Rattle.voxels.specs.Shape.{size, index, stride}
use Rattle.voxels.specs.Extent.{Inside}
use Rattle.voxels.specs.Visible.{modulus, visibility_offset}
use Rattle.voxels.specs.Entered.{most_voxels, Entered}
use Rattle.voxels.proofs.Places.{index_below}
use Rattle.voxels.proofs.Entered.{below, entered_stride, minimum_index, bound_within, bound_small, inner_in_shape, inner_beyond}
use Rattle.listing.specs.Listing.{overwritten}
use Rattle.listing.specs.Pushed.{pushed_all}
use Rattle.rules.specs.Group.{fresh, room_u, room_v, visited}
use Rattle.rules.proofs.Spread.{spread, spread_n, spread_u, spread_v, spread_index, spread_inside}
use Rattle.greedy.specs.Walks.{Touches}
use Rattle.greedy.specs.Spans.{faster, slower, span_of, face_scan, u_stride, v_stride, side_offset}
use Rattle.greedy.specs.Scans.{Scanned, SpotReady, SlicesScan, face_tests, voxel_tests, Accepted, SlicesScanned, FaceMeshed}
use Rattle.greedy.proofs.Sweeps.{spot_index, spot_inside, Same, group_same}
use Rattle.greedy.proofs.Cleared.{cleared_length, cleared_rest, cleared_zero}
use Rattle.voxels.specs.declared.index.Stride.{Stride}
use Rattle.voxels.specs.declared.extent.Extent.{Extent}
use Rattle.greedy.specs.declared.face_scan.Span.{Span}
use Rattle.greedy.specs.declared.face_scan.FaceScan.{FaceScan}

-- The product of a shape's axes, whichever is n.
shape_product : (n : Axis) (shape : Point) → along n shape * (along (slower n) shape * along (faster n) shape) ≡ size shape
unfolding along size
shape_product X s = ap (λ (k : ℕ). s.x * k) (mul_comm s.z s.y) ∙ sym (mul_assoc s.x s.y s.z)
shape_product Y s = ap (λ (k : ℕ). s.y * k) (mul_comm s.z s.x) ∙ sym (mul_assoc s.y s.x s.z) ∙ ap (λ (k : ℕ). k * s.z) (mul_comm s.y s.x)
shape_product Z s = mul_comm s.z (s.y * s.x) ∙ ap (λ (k : ℕ). k * s.z) (mul_comm s.y s.x)

-- ---- what the scan goes by

module _ (lent : ℕ) (shape : Point) (inner : Extent) (entered : Entered lent shape inner) where
  -- The span along an axis, from the code's numbers,
  pub span_from : (a : Axis) (start end : ℕ) (d : Stride) → start ≡ along a inner.minimum → end ≡ along a inner.bound → d.0 ≡ stride shape a % modulus
      → record { start = start; count = end - start; stride = d } ≡ span_of shape inner a
  unfolding span_of
  span_from a start end d s e is = rw (s, e, entered_stride lent shape inner entered a is)

  -- and all that the scan of a face goes by.
  pub scan_from : (f : OrientedBlockFace) (axes : Axes) (dn du dv offset : Stride) (slices rows row : Span) → axes ≡ axes_of f.permutation
      → dn.0 ≡ stride shape axes.n % modulus → du.0 ≡ stride shape axes.u % modulus → dv.0 ≡ stride shape axes.v % modulus
      → offset.0 ≡ visibility_offset (positive f.n_sign) dn.0
      → slices ≡ span_of shape inner axes.n → rows ≡ span_of shape inner (slower axes.n) → row ≡ span_of shape inner (faster axes.n)
      → record { axes = axes; strides = record { u_stride = du; v_stride = dv; visibility_offset = offset }; bound = inner.bound; slices = slices; rows = rows; row = row } ≡ face_scan shape inner f
  unfolding face_scan
  scan_from f axes dn du dv offset slices rows row is n u v o a b c =
      rw (a, b, c, o, entered_stride lent shape inner entered axes.n n, entered_stride lent shape inner entered axes.u u, entered_stride lent shape inner entered axes.v v, is)

module _ (lent marked : ℕ) (shape : Point) (inner : Extent) (accepted : Accepted lent marked shape inner) (f : OrientedBlockFace) where
  abbrev entered : Entered lent shape inner
  entered = accepted.entered

  abbrev c : FaceScan
  c = face_scan shape inner f

  -- How many coordinates an axis has there.
  abbrev count : Axis → ℕ
  count a = along a inner.bound - along a inner.minimum

  -- ---- all that the scan reads was lent

  -- With no more steps than the room, a point is in the shape.
  spread_below : (i j : ℕ) (p : Point) → Inside inner p → i ≤ room_u f inner p → j ≤ room_v f inner p → index shape p + j * (v_stride shape f) + i * (u_stride shape f) < size shape
  spread_below i j p h li lj =
      let hn = h (n_axis f) in
      let hu = h (u_axis f) in
      let hv = h (v_axis f) in
      rw (sym (spread_index f shape i j p))
      (index_below shape (spread f i j p)
      ((frame f.permutation).every (λ (a : Axis). along a (spread f i j p) < along a shape)
      (omega (arith, spread_n f i j p, bound_within lent shape inner entered (n_axis f)))
      (omega (arith, spread_u f i j p, bound_within lent shape inner entered (u_axis f)))
      (omega (arith, spread_v f i j p, bound_within lent shape inner entered (v_axis f)))))

  touches : (i j : ℕ) (p : Point) → Inside inner p → i < room_u f inner p → j < room_v f inner p → Touches lent marked (side_offset shape f) (index shape p + j * (v_stride shape f) + i * (u_stride shape f))
  touches i j p h li lj =
      let some = accepted.entered.held.enough in
      let here = spread_below i j p h (omega arith) (omega arith) in
      let beyond = inner_beyond lent shape inner entered (positive f.n_sign) (n_axis f) (spread f i j p) (spread_inside f inner i j p h li lj) in
      record {
        mark = omega (arith, accepted.marked);
        here = omega arith;
        beyond = let at_p = rw (spread_index f shape i j p) at beyond in omega arith;
      }

  pub spot_ready : (p : Point) → Inside inner p → SpotReady lent marked c p (index shape p)
  unfolding face_scan
  spot_ready p h =
      let hu = h (u_axis f) in
      let hv = h (v_axis f) in
      let small = accepted.entered.held.small in
      record {
        quad = record {
          each = λ j lj. record {
            each = λ i li. touches i j p h li lj;
            last = omega (arith, spread_below (room_u f inner p) j p h (omega arith) (omega arith));
          };
          last = omega (arith, zero-mul (u_stride shape f), spread_below 0 (room_v f inner p) p h (omega arith) (omega arith));
          wide_some = omega arith;
          high_some = omega arith;
        };
        wide_short = omega (arith, bound_within lent shape inner entered (u_axis f), accepted.entered.held.short (u_axis f));
        high_short = omega (arith, bound_within lent shape inner entered (v_axis f), accepted.entered.held.short (v_axis f));
      }

  -- So many slices, rows and places up from the minimum, a point is in the shape.
  at_below : (k j i : ℕ) → k ≤ count (n_axis f) → j ≤ count (slower (n_axis f)) → i ≤ count (faster (n_axis f))
      → index shape inner.minimum + k * stride shape (n_axis f) + j * stride shape (slower (n_axis f)) + i * stride shape (faster (n_axis f)) < size shape
  at_below k j i hk hj hi =
      let n : Axis = n_axis f in
      let room : (a : Axis) (m : ℕ) → m ≤ count a → m < along a shape - along a inner.minimum = λ a m h. omega (arith, below lent shape inner entered a, bound_within lent shape inner entered a) in
      rw (sym (spot_index shape n inner.minimum k j i))
      (index_below shape _ (λ a. (spot_inside n (record { minimum = inner.minimum; bound = shape }) k j i (room n k hk) (room (slower n) j hj) (room (faster n) i hi) a).1))

  pub slices_ready : SlicesScan lent marked c (index shape inner.minimum)
  unfolding face_scan span_of
  slices_ready =
      let n : Axis = n_axis f in
      let small = accepted.entered.held.small in
      let ends : (a : Axis) → along a inner.minimum + count a ≤ most_voxels = λ a. omega (arith, below lent shape inner entered a, bound_small lent shape inner entered a) in
      record {
        each = λ k hk. record {
          each = λ j hj. record {
            each = λ i hi. rw (spot_index shape n inner.minimum k j i) at (spot_ready _ (spot_inside n inner k j i hk hj hi));
            last = omega (arith, at_below k j (count (faster n)) (omega arith) (omega arith) (omega arith));
            end = ends (faster n);
          };
          last = omega (arith, zero-mul (stride shape (faster n)), at_below k (count (slower n)) 0 (omega arith) (omega arith) (omega arith));
          end = ends (slower n);
        };
        last = omega (arith, zero-mul (stride shape (faster n)), zero-mul (stride shape (slower n)), at_below (count n) 0 0 (omega arith) (omega arith) (omega arith));
        end = ends n;
      }

  -- A face has no more points than the shape has voxels, and so its tests are bounded.
  pub few_tests : face_tests c ≤ most_voxels * voxel_tests
  unfolding face_scan span_of
  few_tests =
      let n : Axis = n_axis f in
      let less : (a : Axis) → count a ≤ along a shape = λ a. omega (arith, bound_within lent shape inner entered a) in
      let product : count n * (count (slower n) * count (faster n)) ≤ along n shape * (along (slower n) shape * along (faster n) shape) = mul-le-mul (less n) (mul-le-mul (less (slower n)) (less (faster n))) in
      let points : count n * (count (slower n) * count (faster n)) ≤ most_voxels = omega (arith, shape_product n shape, accepted.entered.held.small) in
      let flat : count n * (count (slower n) * (count (faster n) * voxel_tests)) ≡ count n * (count (slower n) * count (faster n)) * voxel_tests =
      ap (λ (k : ℕ). count n * k) (sym (mul_assoc (count (slower n)) (count (faster n)) voxel_tests)) ∙ sym (mul_assoc (count n) (count (slower n) * count (faster n)) voxel_tests) in
      rw flat (mul-le-mul_right voxel_tests points)

  -- ---- the face's group

  module _ (vs : List ℕ) (was : Scanned) (is : length was.marks ≡ marked) where
    -- The scan's start: the marks are cleared.
    abbrev start : Scanned
    start = record { marks = overwritten (replicate (size shape) 0) was.marks; output = was.output; tests = was.tests }

    -- Cleared bytes tell that nothing is visited.
    start_same : Same lent shape inner entered f vs (drop (size shape) was.marks) was.output was.tests start fresh
    unfolding visited pushed_all
    start_same = record {
      tells = λ p h. rw (cleared_zero (size shape) was.marks (index shape p) (index_below shape p (inner_in_shape lent shape inner entered p h)));
      long = rw (cleared_length (size shape) was.marks (rw is accepted.marked)) (rw is accepted.marked);
      rest = cleared_rest (size shape) was.marks;
      lists = refl;
      adds = sym (add-zero was.tests);
    }

    -- What the scan makes of it is the face's group.
    pub face_made : {now : Scanned} → SlicesScanned vs c (index shape inner.minimum) start now → FaceMeshed vs shape inner f was now
    face_made made =
        let same = group_same lent shape inner entered f vs (drop (size shape) was.marks) was.output was.tests start start_same in
        record {
          is = ap (λ (s : Scanned). s.output) made.is ∙ same.lists;
          tests_are = ap (λ (s : Scanned). s.tests) made.is ∙ same.adds;
          rest = ap (λ (s : Scanned). drop (size shape) s.marks) made.is ∙ same.rest;
          few = made.few;
          bound = omega (arith, made.bound, few_tests);
        }

  -- ---- from the code's numbers

  module _ (scan : FaceScan) (is : scan ≡ c) (i : ℕ) (at_i : i ≡ index shape inner.minimum % modulus) where
    pub scan_ready : SlicesScan lent marked scan i
    scan_ready = rw (is, minimum_index lent shape inner entered at_i) slices_ready

    pub scan_few : face_tests scan ≤ most_voxels * voxel_tests
    scan_few = rw is few_tests

    pub scan_made : (vs : List ℕ) (was : Scanned) → length was.marks ≡ marked → (n : ℕ) → n ≡ size shape → (marks : List ℕ) → marks ≡ overwritten (replicate n 0) was.marks
        → {now : Scanned} → SlicesScanned vs scan i (record { marks = marks; output = was.output; tests = was.tests }) now → FaceMeshed vs shape inner f was now
    scan_made vs was long n all marks first made = face_made vs was long (rw (is, minimum_index lent shape inner entered at_i, first, all) at made)
