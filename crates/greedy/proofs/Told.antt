-- What the bytes tell: the byte at a point's index is 0 exactly where no quad of the group contains the point. Laying a rectangle keeps it so, and then the walk by indices is the walk in coordinates.
use mathlib.Core.Bool.{true, false, not, ◌||◌, or-true, or-false}
use mathlib.Core.List.{List, [], ◌∷◌, ◌++◌}
use mathlib.Core.Path.{◌≡◌, refl, sym, ◌∙◌, ap}
use Prim.Native.Nat.{ℕ, suc, ◌+◌, ◌-◌, ◌*◌, ◌≤◌, ◌<◌}
use native.Mathlib.Nat.{one-mul}
use native.Mathlib.Omega.{arith}
use lib.Dec.{eqb}
use lib.ListN.{length, get_or}
use Rattle.geometry.specs.declared.axis.Axis.{Axis}
use Rattle.geometry.specs.declared.quad.UnorientedQuad.{UnorientedQuad}
use Rattle.geometry.specs.declared.face.OrientedBlockFace.{OrientedBlockFace}
use Rattle.geometry.specs.Point.{Point, along, moved}
use Rattle.geometry.specs.Axes.{positive, n_axis, u_axis, v_axis, bit}
use Rattle.geometry.proofs.Frame.{frame, moved_on, moved_off}
use Rattle.geometry.proofs.Refusals.{split}
use Rattle.voxels.specs.Loop.{step_by}
use Rattle.voxels.specs.Shape.{size, index, stride, Field, field}
use Rattle.voxels.specs.Extent.{Inside}
use Rattle.voxels.specs.Visible.{visible}
use Rattle.voxels.specs.Entered.{Entered}
use Rattle.voxels.proofs.Places.{index_moved, index_below, one_point}
use Rattle.voxels.proofs.Steps.{inside_moved}
use Rattle.voxels.proofs.Entered.{inner_in_shape, inner_offset}
use Rattle.rules.specs.Group.{contains, passes, room_u, room_v, visited}
use Rattle.rules.specs.Merger.{follows, row_walk, rows_walk, voxel_merger, walked_rows}
use Rattle.rules.proofs.Spread.{spread, spread_index, spread_inside}
use Rattle.rules.proofs.Contains.{contains_true, spread_contained, reached}
use Rattle.rules.proofs.Walks.{walks_same, rows_same}
use Rattle.greedy.specs.Walks.{needs_at, joins_at, row_at, quad_at}
use Rattle.greedy.specs.Marks.{mark_quad_at}
use Rattle.greedy.specs.Spans.{u_stride, v_stride, side_offset}
use Rattle.greedy.proofs.Walks.{row_at_most}
use Rattle.greedy.proofs.Marks.{quad_hits, quad_misses}
use Rattle.voxels.specs.declared.extent.Extent.{Extent}

-- With one quad more, a point is visited where it was or where that quad contains it.
pub visited_more : (f : OrientedBlockFace) (qs : List UnorientedQuad) (q : UnorientedQuad) (p : Point) → visited f (qs ++ (q ∷ [])) p ≡ visited f qs p || contains f q p
unfolding visited
visited_more f [] q p = or-false (contains f q p)
visited_more f (r ∷ qs) q p = split (contains f r p) (λ t. rw t) (λ e. rw e (visited_more f qs q p))

module _ (lent : ℕ) (shape : Point) (inner : Extent) (entered : Entered lent shape inner) (f : OrientedBlockFace) where
  -- The bytes tell which interior points some quads visit.
  abbrev pub Tells : List UnorientedQuad → List ℕ → Type 0
  Tells qs marks = (p : Point) → Inside inner p → eqb (get_or marks (index shape p) 0) 0 ≡ not (visited f qs p)

  -- A quad that is laid with the room for it, and marked, is told.
  pub tells_more : (qs : List UnorientedQuad) (marks : List ℕ) (q : UnorientedQuad) → Tells qs marks → size shape ≤ length marks
      → Inside inner q.minimum → q.width ≤ room_u f inner q.minimum → q.height ≤ room_v f inner q.minimum
      → Tells (qs ++ (q ∷ [])) (mark_quad_at (u_stride shape f) q.width (v_stride shape f) q.height marks (index shape q.minimum))
  tells_more qs marks q tells long h w l x hx =
      rw (visited_more f qs q x)
      (split (contains f q x)
      (λ t.
      let k = contains_true f q x t in
      let i : ℕ = along (u_axis f) x - along (u_axis f) q.minimum in
      let j : ℕ = along (v_axis f) x - along (v_axis f) q.minimum in
      let at_x : index shape q.minimum + j * (v_stride shape f) + i * (u_stride shape f) ≡ index shape x = sym (spread_index f shape i j q.minimum) ∙ ap (index shape) (reached f q x k) in
      let below : index shape x < length marks = omega (arith, index_below shape x (inner_in_shape lent shape inner entered x hx)) in
      let hit : get_or (mark_quad_at (u_stride shape f) q.width (v_stride shape f) q.height marks (index shape q.minimum)) (index shape x) 0 ≡ 1 =
      rw at_x at (quad_hits (u_stride shape f) q.width (v_stride shape f) q.height marks (index shape q.minimum) i j (omega arith) (omega arith) (rw at_x below)) in
      rw (hit, t, or-true (visited f qs x)))
      (λ e.
      let other : (i j : ℕ) → i < q.width → j < q.height → index shape x ≡ index shape q.minimum + j * (v_stride shape f) + i * (u_stride shape f) → ⊥ = λ i j li lj is.
      let lies = spread_inside f inner i j q.minimum h (omega arith) (omega arith) in
      let same : x ≡ spread f i j q.minimum =
      one_point shape x (spread f i j q.minimum) (inner_in_shape lent shape inner entered x hx) (inner_in_shape lent shape inner entered _ lies) (is ∙ sym (spread_index f shape i j q.minimum)) in
      let clash : true ≡ false = sym (spread_contained f q i j li lj) ∙ ap (contains f q) (sym same) ∙ e in
      let none = ap bit clash in
      omega arith in
      let miss : get_or (mark_quad_at (u_stride shape f) q.width (v_stride shape f) q.height marks (index shape q.minimum)) (index shape x) 0 ≡ get_or marks (index shape x) 0 =
      quad_misses (u_stride shape f) q.width (v_stride shape f) q.height (index shape x) marks (index shape q.minimum) other in
      rw (miss, e, or-false (visited f qs x)) (tells x hx)))

  -- An index is tied to a point, with so many steps left along an axis: it is the point's, which is interior while steps are left, and they do not lead past the edge.
  record Tied (a : Axis) (left i : ℕ) (p : Point) : Type 0 where
    is : i ≡ index shape p
    lies : 0 < left → Inside inner p
    room : along a p + left ≤ along a inner.bound

  tied_on : (a : Axis) (n i : ℕ) (p : Point) → Tied a (suc n) i p → Tied a n (step_by (stride shape a) i) (moved a 1 p)
  tied_on a n i p tied = record {
    is = ap (step_by (stride shape a)) tied.is ∙ sym (index_moved shape a 1 p ∙ omega (arith, one-mul (stride shape a)));
    lies = λ some. inside_moved inner a 1 p (tied.lies (omega arith)) (omega (arith, tied.room));
    room = omega (arith, tied.room, moved_on a 1 p);
  }

  module _ (vs : List ℕ) (qs : List UnorientedQuad) (marks : List ℕ) (tells : Tells qs marks) where
    abbrev v : Field
    v = field shape vs

    -- The test of a voxel is the same by index and in coordinates,
    pub needs_same : (p : Point) → Inside inner p → needs_at vs marks (side_offset shape f) (index shape p) ≡ passes f v qs p
    unfolding needs_at passes visible field
    needs_same p h = rw (tells p h, inner_offset lent shape inner entered (positive f.n_sign) (n_axis f) p h)

    joins_same : (first p : Point) → Inside inner p → joins_at vs marks (side_offset shape f) (v first) (index shape p) ≡ follows f v qs first p
    unfolding joins_at follows field
    joins_same first p h = rw (needs_same p h)

    -- and so is a row walk that does not pass the edge: an index is tied to a point while the point is interior,
    row_same : (first : Point) (most : ℕ) (p : Point) → (0 < most → Inside inner p) → along (u_axis f) p + most ≤ along (u_axis f) inner.bound
        → row_at vs marks (side_offset shape f) (v first) (u_stride shape f) most (index shape p) ≡ row_walk f v qs first p most
    unfolding row_at row_walk
    row_same first most p h room =
        walks_same (joins_at vs marks (side_offset shape f) (v first)) (step_by (u_stride shape f)) (follows f v qs first) (moved (u_axis f) 1) (Tied (u_axis f))
        (λ n i q tied. ap (joins_at vs marks (side_offset shape f) (v first)) tied.is ∙ joins_same first q (tied.lies (omega arith)))
        (tied_on (u_axis f)) most (index shape p) p (record { is = refl; lies = h; room = room })

    -- and so is a walk over rows.
    rows_walk_same : (first : Point) (width most : ℕ) (p : Point) → (0 < most → Inside inner p) → along (v_axis f) p + most ≤ along (v_axis f) inner.bound
        → along (u_axis f) p + width ≤ along (u_axis f) inner.bound
        → walked_rows (row_at vs marks (side_offset shape f) (v first) (u_stride shape f) width) width (step_by (v_stride shape f)) (index shape p) most ≡ rows_walk f v qs first width p most
    unfolding rows_walk
    rows_walk_same first width most p h room wide =
        rows_same (row_at vs marks (side_offset shape f) (v first) (u_stride shape f) width) (step_by (v_stride shape f)) (λ (q : Point). row_walk f v qs first q width) (moved (v_axis f) 1) width
        (λ (n i : ℕ) (q : Point). Tied (v_axis f) n i q × (along (u_axis f) q + width ≤ along (u_axis f) inner.bound))
        (λ n i q tied. ap (row_at vs marks (side_offset shape f) (v first) (u_stride shape f) width) tied.0.is ∙ row_same first width q (λ some. tied.0.lies (omega arith)) tied.1)
        (λ n i q tied. (tied_on (v_axis f) n i q tied.0, omega (arith, tied.1, moved_off (u_axis f) (v_axis f) (frame f.permutation).uv 1 q)))
        most (index shape p) p (record { is = refl; lies = h; room = room }, wide)

    -- The rectangle that the walk picks is the same.
    pub quad_same : (p : Point) → Inside inner p → quad_at vs marks (side_offset shape f) (u_stride shape f) (v_stride shape f) (room_u f inner p) (room_v f inner p) (index shape p) ≡ voxel_merger f v qs p (room_u f inner p) (room_v f inner p)
    unfolding quad_at voxel_merger field
    quad_same p h =
        let hu = h (u_axis f) in
        let hv = h (v_axis f) in
        let next : index shape (moved (v_axis f) 1 p) ≡ index shape p + (v_stride shape f) = index_moved shape (v_axis f) 1 p ∙ omega (arith, one-mul (v_stride shape f)) in
        let row : row_at vs marks (side_offset shape f) (get_or vs (index shape p) 0) (u_stride shape f) (room_u f inner p) (index shape p) ≡ row_walk f v qs p p (room_u f inner p) = row_same p (room_u f inner p) p (λ some. h) (omega arith) in
        let width : ℕ = (row_walk f v qs p p (room_u f inner p)).got in
        let wide : width ≤ room_u f inner p = row_at_most vs marks (side_offset shape f) (get_or vs (index shape p) 0) (u_stride shape f) (room_u f inner p) (index shape p) (sym row) in
        let rows : walked_rows (row_at vs marks (side_offset shape f) (get_or vs (index shape p) 0) (u_stride shape f) width) width (step_by (v_stride shape f)) (index shape p + (v_stride shape f)) (room_v f inner p - 1) ≡ rows_walk f v qs p width (moved (v_axis f) 1 p) (room_v f inner p - 1) =
        rw next at
        (rows_walk_same p width (room_v f inner p - 1) (moved (v_axis f) 1 p) (λ some. inside_moved inner (v_axis f) 1 p h (omega arith)) (omega (arith, moved_on (v_axis f) 1 p))
        (omega (arith, moved_off (u_axis f) (v_axis f) (frame f.permutation).uv 1 p))) in
        rw (row, rows)
