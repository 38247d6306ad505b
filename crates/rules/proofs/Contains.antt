-- What a quad contains: the points so many steps along u and v from its minimum, which are the points of an extent, as many as its area.
use mathlib.Core.Bool.{Bool, true}
use mathlib.Core.Path.{◌≡◌, sym, ◌∙◌, ap, fun_ext}
use Prim.Native.Nat.{ℕ, ◌+◌, ◌-◌, ◌≤◌, ◌<◌}
use native.Mathlib.Nat.{one-mul, add-sub_cancel_left}
use native.Mathlib.Omega.{arith}
use borrow.Author.Tests.{eqb-true, leb-true, ltb-true, eq-eqb, le-leb, lt-ltb}
use Rattle.geometry.specs.declared.axis.Axis.{Axis}
use Rattle.geometry.specs.declared.quad.UnorientedQuad.{UnorientedQuad}
use Rattle.geometry.specs.declared.face.OrientedBlockFace.{OrientedBlockFace}
use Rattle.geometry.specs.Point.{Point, along}
use Rattle.geometry.specs.Axes.{n_axis, u_axis, v_axis, bit}
use Rattle.geometry.proofs.Tests.{both_true}
use Rattle.geometry.proofs.Frame.{moved_on, moved_off, one_point, frame}
use Rattle.geometry.proofs.Lists.{each_up}
use Rattle.voxels.specs.Extent.{Inside, scan, inside}
use Rattle.voxels.proofs.Scan.{scan_inside}
use Rattle.voxels.proofs.Times.{inside_true, inside_yes}
use Rattle.rules.specs.Group.{among, contains}
use Rattle.rules.specs.Demand.{area, sum_of, points}
use Rattle.rules.specs.Choices.{voxels_of}
use Rattle.rules.proofs.Spread.{spread, spread_n, spread_u, spread_v}
use Rattle.rules.proofs.Counts.{one_test, points_inside, span, scan_length}
use Rattle.voxels.specs.declared.extent.Extent.{Extent}

module _ (f : OrientedBlockFace) (q : UnorientedQuad) where
  -- A point is in the quad, coordinate by coordinate.
  pub record In (p : Point) : Type 0 where
    pub level : along (n_axis f) p ≡ along (n_axis f) q.minimum
    pub u_from : along (u_axis f) q.minimum ≤ along (u_axis f) p
    pub u_to : along (u_axis f) p < along (u_axis f) q.minimum + q.width
    pub v_from : along (v_axis f) q.minimum ≤ along (v_axis f) p
    pub v_to : along (v_axis f) p < along (v_axis f) q.minimum + q.height

  pub contains_true : (p : Point) → contains f q p ≡ true → In p
  unfolding contains among
  contains_true p h =
      let nuv = both_true _ _ h in
      let nu = both_true _ _ nuv.0 in
      let u = both_true _ _ nu.1 in
      let v = both_true _ _ nuv.1 in
      record {
        level = eqb-true _ _ nu.0;
        u_from = leb-true _ _ u.0;
        u_to = ltb-true _ _ u.1;
        v_from = leb-true _ _ v.0;
        v_to = ltb-true _ _ v.1;
      }

  pub contains_yes : (p : Point) → In p → contains f q p ≡ true
  unfolding contains among
  contains_yes p i = rw (eq-eqb _ _ i.level, le-leb _ _ i.u_from, lt-ltb _ _ i.u_to, le-leb _ _ i.v_from, lt-ltb _ _ i.v_to)

  -- The points that its sides span are in the quad,
  pub spread_contained : (i j : ℕ) → i < q.width → j < q.height → contains f q (spread f i j q.minimum) ≡ true
  spread_contained i j li lj =
      let p : Point = q.minimum in
      contains_yes (spread f i j q.minimum) (record {
        level = spread_n f i j p;
        u_from = omega (arith, spread_u f i j p);
        u_to = omega (arith, spread_u f i j p);
        v_from = omega (arith, spread_v f i j p);
        v_to = omega (arith, spread_v f i j p);
      })

  -- and each point of the quad is one of them.
  pub reached : (p : Point) → In p → spread f (along (u_axis f) p - along (u_axis f) q.minimum) (along (v_axis f) p - along (v_axis f) q.minimum) q.minimum ≡ p
  reached p h =
      let i : ℕ = along (u_axis f) p - along (u_axis f) q.minimum in
      let j : ℕ = along (v_axis f) p - along (v_axis f) q.minimum in
      one_point (spread f i j q.minimum) p ((frame f.permutation).every (λ (a : Axis). along a (spread f i j q.minimum) ≡ along a p)
      (spread_n f i j q.minimum ∙ sym h.level)
      (spread_u f i j q.minimum ∙ omega arith)
      (spread_v f i j q.minimum ∙ omega arith))

  -- The extent of its voxels reaches one step up n, its width up u and its height up v.
  bound_n : along (n_axis f) (voxels_of f q).bound ≡ along (n_axis f) q.minimum + 1
  unfolding voxels_of
  bound_n = let F = frame f.permutation in rw (moved_on, moved_off (n_axis f) (u_axis f) F.nu, moved_off (n_axis f) (v_axis f) F.nv)

  bound_u : along (u_axis f) (voxels_of f q).bound ≡ along (u_axis f) q.minimum + q.width
  unfolding voxels_of
  bound_u = let F = frame f.permutation in rw (moved_off (u_axis f) (n_axis f) F.un, moved_on, moved_off (u_axis f) (v_axis f) F.uv)

  bound_v : along (v_axis f) (voxels_of f q).bound ≡ along (v_axis f) q.minimum + q.height
  unfolding voxels_of
  bound_v = let F = frame f.permutation in rw (moved_off (v_axis f) (n_axis f) F.vn, moved_off (v_axis f) (u_axis f) F.vu, moved_on)

  -- What the quad contains is what lies in that extent.
  pub in_voxels : (p : Point) → In p → Inside (voxels_of f q) p
  unfolding voxels_of
  in_voxels p i =
      (frame f.permutation).every (λ (a : Axis). (along a (voxels_of f q).minimum ≤ along a p) × (along a p < along a (voxels_of f q).bound))
      (rw bound_n (omega arith, omega arith)) (rw bound_u (i.u_from, i.u_to)) (rw bound_v (i.v_from, i.v_to))

  pub voxels_in : (p : Point) → Inside (voxels_of f q) p → In p
  unfolding voxels_of
  voxels_in p i =
      let n = rw bound_n at (i (n_axis f)) in
      let u = rw bound_u at (i (u_axis f)) in
      let v = rw bound_v at (i (v_axis f)) in
      record { level = omega arith; u_from = u.0; u_to = u.1; v_from = v.0; v_to = v.1 }

  pub contains_inside : (p : Point) → contains f q p ≡ inside (voxels_of f q) p
  contains_inside p =
      one_test _ _ (λ t. inside_yes _ p (in_voxels p (contains_true p t))) (λ t. contains_yes p (voxels_in p (inside_true _ p t)))

  -- It has as many points as the quad's area.
  pub voxels_area : points (voxels_of f q) ≡ area q
  unfolding voxels_of
  voxels_area =
      let F = frame f.permutation in
      scan_length (voxels_of f q) ∙ F.product (span (voxels_of f q)) ∙ simp (bound_n, bound_u, bound_v, add-sub_cancel_left) (one-mul (area q))

  -- So of an extent's points the quad contains as many as its area, where it contains none outside.
  pub contained_area : (e : Extent) → ((p : Point) → contains f q p ≡ true → Inside e p) → sum_of (λ (p : Point). bit (contains f q p)) (scan e) ≡ area q
  contained_area e h =
      ap (λ (test : Point → Bool). sum_of (λ (p : Point). bit (test p)) (scan e)) (fun_ext contains_inside)
      ∙ points_inside e (voxels_of f q) (each_up (Inside (voxels_of f q)) (Inside e) (λ p i. h p (contains_yes p (voxels_in p i))) _ (scan_inside (voxels_of f q)))
      ∙ voxels_area
