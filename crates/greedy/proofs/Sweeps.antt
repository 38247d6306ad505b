-- The scan of a face by indices makes the face's group: a slice is scanned as two loops, and each step keeps what ties the code's state to the rule's.
use mathlib.Core.List.{List, [], ◌∷◌, ◌++◌, map, append-nil}
use mathlib.Core.Path.{◌≡◌, refl, sym, ◌∙◌, ap}
use Prim.Native.Nat.{ℕ, zero, suc, ◌+◌, ◌-◌, ◌*◌, ◌≤◌, ◌<◌}
use native.Mathlib.Nat.{mul-one}
use native.Mathlib.Omega.{arith}
use lib.ListN.{length, drop}
use Rattle.geometry.specs.declared.axis.Axis.{Axis}
use Rattle.geometry.specs.declared.axis.Axis.TheVariants.{X, Y, Z}
use Rattle.geometry.specs.declared.face.OrientedBlockFace.{OrientedBlockFace}
use Rattle.geometry.specs.Point.{Point, at, along, put}
use Rattle.geometry.specs.Axes.{n_axis, v_axis}
use Rattle.geometry.proofs.Refusals.{split}
use Rattle.voxels.specs.Shape.{size, index, stride, Field, field}
use Rattle.voxels.specs.Extent.{Inside, up_to, scan}
use Rattle.voxels.specs.Loop.{looped, step_by, every, Stand, stand, on_by, and_next, steps}
use Rattle.voxels.specs.Entered.{Entered}
use Rattle.voxels.proofs.Places.{index_at, index_below}
use Rattle.voxels.proofs.Loops.{onward_by, onward_both, loops_agree, loops_same}
use Rattle.voxels.proofs.Scan.{inside_at}
use Rattle.voxels.proofs.Entered.{inner_in_shape}
use Rattle.listing.specs.Pushed.{Output, pushed, pushed_all}
use Rattle.listing.proofs.Pushed.{pushed_append}
use Rattle.listing.proofs.Groups.{map_one_more}
use Rattle.rules.specs.Group.{slice_at, sweep, passes, Choice, State, scanned, swept, fresh, group, Pick, room_u, room_v, quad_of, group_from}
use Rattle.rules.specs.Merger.{voxel_merger}
use Rattle.rules.specs.Greedy.{greedy_group}
use Rattle.rules.proofs.Spread.{spread, spread_index, spread_inside}
use Rattle.greedy.specs.Greedy.{listed, quad_numbers, numbers_of}
use Rattle.greedy.specs.Walks.{quad_at}
use Rattle.greedy.specs.Spans.{faster, slower, spot, span_of, face_scan, u_stride, v_stride, side_offset}
use Rattle.greedy.specs.Scans.{Scanned, laid_by, laid_at, scanned_at, row_along, slice_along, slices_along}
use Rattle.greedy.proofs.Rectangles.{quad_wide, quad_high}
use Rattle.greedy.proofs.Marks.{quad_length, quad_rest}
use Rattle.greedy.proofs.Told.{Tells, tells_more, needs_same, quad_same}
use Rattle.voxels.specs.declared.extent.Extent.{Extent}
use Rattle.greedy.specs.declared.face_scan.FaceScan.{FaceScan}

-- ---- a slice as two loops

-- A loop over one number.
only : {A : Type 0} (g : ℕ → List A) (k : ℕ) → up_to k (k + 1) g ≡ g k
unfolding looped
only g k = let one : k + 1 - k ≡ suc zero = omega arith in rw one (append-nil (g k))

-- The points of a slice, row by row.
pub slice_scan : (n : Axis) (e : Extent) (k : ℕ) → scan (slice_at n e k)
    ≡ up_to (along (slower n) e.minimum) (along (slower n) e.bound) (λ (j : ℕ). up_to (along (faster n) e.minimum) (along (faster n) e.bound) (λ (i : ℕ). spot n k j i ∷ []))
unfolding scan slice_at put along
slice_scan X e k = loops_same _ _ _ _ _ _ _ _ _ (λ j _. loops_same _ _ _ _ _ _ _ _ _ (λ i _. only (λ (x : ℕ). at x _ _ ∷ []) k))
slice_scan Y e k = loops_same _ _ _ _ _ _ _ _ _ (λ j _. only (λ (y : ℕ). up_to e.minimum.x e.bound.x (λ (x : ℕ). at x y _ ∷ [])) k)
slice_scan Z e k = only (λ (z : ℕ). up_to e.minimum.y e.bound.y (λ (y : ℕ). up_to e.minimum.x e.bound.x (λ (x : ℕ). at x y z ∷ []))) k

-- Where a point of it lies, by its steps from the minimum,
pub spot_index : (shape : Point) (n : Axis) (p : Point) (k j i : ℕ)
    → index shape (spot n (along n p + k) (along (slower n) p + j) (along (faster n) p + i)) ≡ index shape p + k * stride shape n + j * stride shape (slower n) + i * stride shape (faster n)
unfolding along stride
spot_index shape X p k j i = omega (arith, index_at shape p k i j, mul-one k)
spot_index shape Y p k j i = omega (arith, index_at shape p i k j, mul-one i)
spot_index shape Z p k j i = omega (arith, index_at shape p i j k, mul-one i)

-- and that it lies in the extent.
pub spot_inside : (n : Axis) (e : Extent) (k j i : ℕ) → k < along n e.bound - along n e.minimum → j < along (slower n) e.bound - along (slower n) e.minimum
    → i < along (faster n) e.bound - along (faster n) e.minimum → Inside e (spot n (along n e.minimum + k) (along (slower n) e.minimum + j) (along (faster n) e.minimum + i))
unfolding along
spot_inside X e k j i hk hj hi = inside_at e k i j hk hi hj
spot_inside Y e k j i hk hj hi = inside_at e i k j hi hk hj
spot_inside Z e k j i hk hj hi = inside_at e i j k hi hj hk

-- ---- two folds hand in hand

module _ (f : OrientedBlockFace) (v : Field) (e : Extent) (choice : Choice) where
  pub swept_append : (s : State) (l m : List Point) → swept f v e choice s (l ++ m) ≡ swept f v e choice (swept f v e choice s l) m
  unfolding swept
  swept_append s [] m = refl
  swept_append s (p ∷ l) m = swept_append (scanned f v e choice s p) l m

  -- What each step keeps of a state by indices and a rule's, a loop keeps.
  steps_swept : {S : Type 0} (R : S → State → Type 0) (d : ℕ) (act : S → ℕ → ℕ → S) (g : ℕ → List Point) (n a i : ℕ) (s : S) (t : State)
      → ((k : ℕ) (s : S) (t : State) → k < n → R s t → R (act s (a + k) (i + k * d)) (swept f v e choice t (g (a + k))))
      → R s t → R (steps d act s a i n) (swept f v e choice t (every 1 a n g))
  unfolding swept
  steps_swept {S} R d act g n a i s t keep r =
      loops_agree {join = and_next} (λ (step : S → S) (l : List Point). (s : S) (t : State) → R s t → R (step s) (swept f v e choice t l)) (λ s t r. r)
      (λ step step' l m first rest s t r. rw (swept_append t l m) (rest _ _ (first s t r)))
      (on_by d) (λ (p : Stand) (s : S). act s p.coordinate p.index) (step_by 1) g n (stand a i) a
      (λ k h s t r. rw (onward_both d a i k, onward_by 1 a k, mul-one) (keep k s t h r)) s t r

-- ---- the group

module _ (lent : ℕ) (shape : Point) (inner : Extent) (entered : Entered lent shape inner) (f : OrientedBlockFace) (vs : List ℕ) (bytes : List ℕ) (before : Output) (made : ℕ) where
  abbrev v : Field
  v = field shape vs

  abbrev c : FaceScan
  c = face_scan shape inner f

  -- What ties the code's state to the rule's: the bytes tell the visited points, past the shape's voxels they are as they were, the quads are listed and the tests are added.
  pub record Same (s : Scanned) (t : State) : Type 0 where
    pub tells : Tells lent shape inner entered f t.quads s.marks
    pub long : size shape ≤ length s.marks
    pub rest : drop (size shape) s.marks ≡ bytes
    pub lists : s.output ≡ pushed_all quad_numbers numbers_of before (map listed t.quads)
    pub adds : s.tests ≡ made + t.tests

  module _ (s : Scanned) (t : State) (same : Same s t) (p : Point) (h : Inside inner p) where
    -- A rectangle within the room that is laid by indices is laid by the rule, whatever picked it.
    module _ (q : Pick) (wide : q.width ≤ room_u f inner p) (high : q.height ≤ room_v f inner p) where
      within : (x y : ℕ) → x < q.width → y < q.height → index shape p + y * (v_stride shape f) + x * (u_stride shape f) < size shape
      within x y lx ly =
          rw (sym (spread_index f shape x y p))
          (index_below shape (spread f x y p) (inner_in_shape lent shape inner entered _ (spread_inside f inner x y p h (omega (arith, wide)) (omega (arith, high)))))

      pub laid_by_lem : Same (laid_by c s p (index shape p) q) (record { quads = t.quads ++ (quad_of p q ∷ []); tests = t.tests + 1 + q.tests })
      unfolding laid_by face_scan pushed_all
      laid_by_lem = record {
        tells = tells_more lent shape inner entered f t.quads s.marks (quad_of p q) same.tells same.long h wide high;
        long = rw (quad_length (u_stride shape f) q.width (v_stride shape f) q.height s.marks (index shape p)) same.long;
        rest = quad_rest (u_stride shape f) q.width (v_stride shape f) q.height (size shape) s.marks (index shape p) within ∙ same.rest;
        lists =
            ap (λ (o : Output). pushed quad_numbers numbers_of o (listed (quad_of p q))) same.lists
            ∙ sym (pushed_append quad_numbers numbers_of before (map listed t.quads) (listed (quad_of p q) ∷ []))
            ∙ ap (pushed_all quad_numbers numbers_of before) (sym (map_one_more listed t.quads (quad_of p q)));
        adds = omega (arith, same.adds);
      }

    -- The walk's is such a one.
    abbrev picked : Pick
    picked = voxel_merger f v t.quads p (room_u f inner p) (room_v f inner p)

    pick_same : quad_at vs s.marks (side_offset shape f) (u_stride shape f) (v_stride shape f) (room_u f inner p) (room_v f inner p) (index shape p) ≡ picked
    pick_same = quad_same lent shape inner entered f vs t.quads s.marks same.tells p h

    laid_same : Same (laid_at vs c s p (index shape p)) (record { quads = t.quads ++ (quad_of p picked ∷ []); tests = t.tests + 1 + picked.tests })
    unfolding laid_at face_scan
    laid_same =
        let hv = h (v_axis f) in
        rw pick_same
        (laid_by_lem picked
        (quad_wide vs s.marks (side_offset shape f) (u_stride shape f) (v_stride shape f) (room_u f inner p) (room_v f inner p) (index shape p) (sym pick_same))
        (quad_high vs s.marks (side_offset shape f) (u_stride shape f) (v_stride shape f) (room_u f inner p) (room_v f inner p) (index shape p) (sym pick_same) (omega arith)))

    -- A voxel that is scanned by its index is scanned by the rule.
    pub scanned_same : Same (scanned_at vs c s p (index shape p)) (scanned f v inner (voxel_merger f v) t p)
    unfolding scanned_at scanned face_scan
    scanned_same =
        let needs = needs_same lent shape inner entered f vs t.quads s.marks same.tells p h in
        split (passes f v t.quads p)
        (λ e. rw (needs ∙ e, scanned_at, e, scanned) laid_same)
        (λ e. rw (needs ∙ e, scanned_at, e, scanned) (record { tells = same.tells; long = same.long; rest = same.rest; lists = same.lists; adds = omega (arith, same.adds) }))

  -- The scan of all slices lays quads on, from any start,
  pub group_on : (s : Scanned) (t : State) → Same s t → Same (slices_along vs c s (index shape inner.minimum)) (group_from f v inner (voxel_merger f v) t)
  unfolding slices_along slice_along row_along face_scan span_of sweep swept
  group_on s t start =
      let n : Axis = n_axis f in
      let lo : Point = inner.minimum in
      let choice : Choice = voxel_merger f v in
      steps_swept f v inner choice Same (stride shape n) _ _ _ (along n lo) (index shape lo) s t (λ k s t hk r.
      rw (slice_scan n inner (along n lo + k))
      (steps_swept f v inner choice Same (stride shape (slower n)) _ _ _ (along (slower n) lo) (index shape lo + k * stride shape n) s t (λ j s t hj r.
      steps_swept f v inner choice Same (stride shape (faster n)) _ _ _ (along (faster n) lo) (index shape lo + k * stride shape n + j * stride shape (slower n)) s t (λ i s t hi r.
      rw (spot_index shape n lo k j i) at (scanned_same s t r (spot n (along n lo + k) (along (slower n) lo + j) (along (faster n) lo + i)) (spot_inside n inner k j i hk hj hi))) r) r)) start

  -- and from nothing it makes the group.
  pub group_same : (s : Scanned) → Same s fresh → Same (slices_along vs c s (index shape inner.minimum)) (greedy_group inner v f)
  unfolding greedy_group group
  group_same s start = group_on s fresh start
