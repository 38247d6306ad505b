-- Where the entry checks pass every quad of every group is within check 12's limits on its own face, so that nothing that the drawing code asks about it is refused; and a quad's corners
-- enclose exactly the faces of the voxels that it contains.
use mathlib.Core.Bool.{true}
use mathlib.Core.List.{List}
use mathlib.Core.Path.{◌≡◌, sym, ◌∙◌}
use Prim.Native.Nat.{ℕ, ◌≤◌}
use native.Mathlib.Omega.{arith}
use Rattle.geometry.specs.declared.quad.UnorientedQuad.{UnorientedQuad}
use Rattle.geometry.specs.declared.face.OrientedBlockFace.{OrientedBlockFace}
use Rattle.geometry.specs.declared.face.Corner.{Corner}
use Rattle.geometry.specs.declared.face.Corner.TheVariants.{MinuMinv, MaxuMinv, MinuMaxv, MaxuMaxv}
use Rattle.geometry.specs.Refusal.{accepted, checked}
use Rattle.geometry.specs.Point.{Point}
use Rattle.geometry.specs.Axes.{u_axis, v_axis}
use Rattle.geometry.specs.Corners.{corner}
use Rattle.geometry.specs.Statements.{unit_quad_at, Drawn}
use Rattle.geometry.specs.Lists.{Each}
use Rattle.geometry.proofs.Limits.{bounds_limits}
use Rattle.geometry.proofs.Corners.{far_u, far_v, corner_n, corner_u, corner_v}
use Rattle.geometry.proofs.Drawn.{drawn}
use Rattle.geometry.proofs.Lists.{each_up, each_those}
use Rattle.voxels.specs.Shape.{Field}
use Rattle.voxels.specs.Extent.{interior, Inside, scan}
use Rattle.voxels.specs.Visible.{visible}
use Rattle.voxels.specs.Checks.{bounds_checks, bad_faces}
use Rattle.voxels.proofs.Scan.{scan_inside}
use Rattle.voxels.proofs.Held.{max_below}
use Rattle.voxels.proofs.Faces.{Proper, faces_proper}
use Rattle.rules.specs.Unit.{unit_group}
use Rattle.rules.specs.Group.{contains}
use Rattle.rules.specs.Demand.{InSlice}
use Rattle.rules.specs.Drawn.{GroupDrawn, UnitDrawn, InRectangle, Encloses}
use Rattle.rules.proofs.Contains.{contains_true, contains_yes}
use Rattle.rules.proofs.Unit.{unit_in_slice}
use Rattle.rules.proofs.Demand.{greedy_in_slice}

-- ---- drawn

-- Where checks 1 to 5 pass and a face's sign is proper a quad within a slice of the interior can be drawn, whatever picked it.
module _ (shape : Point) (lent : ℕ) (min max : Point) (passed : checked (bounds_checks lent shape min max) ≡ accepted tt) where
  pub slice_drawn : (f : OrientedBlockFace) → Proper f → (q : UnorientedQuad) → InSlice f (interior min max) q → Drawn f q
  slice_drawn f proper q i =
      drawn f q proper (bounds_limits f q (record {
        least = λ a. let lies = i.minimum_inside a in omega (arith, max_below shape lent min max passed a);
        wide = omega (arith, i.within_u, max_below shape lent min max passed (u_axis f));
        high = omega (arith, i.within_v, max_below shape lent min max passed (v_axis f));
      }) i.some_width i.some_height)

  module _ (v : Field) (faces : List OrientedBlockFace) (signs : checked (bad_faces faces) ≡ accepted tt) where
    -- So where check 6 passes too every quad of every face's greedy group can be drawn,
    pub greedy_drawn : Each (GroupDrawn (interior min max) v) faces
    greedy_drawn =
        each_up Proper (GroupDrawn (interior min max) v)
        (λ f proper. each_up (InSlice f (interior min max)) (Drawn f) (slice_drawn f proper) _ (greedy_in_slice f v (interior min max)))
        faces (faces_proper 0 faces signs)

    -- and every one of its unit group.
    pub unit_drawn : Each (UnitDrawn (interior min max) v) faces
    unfolding unit_group
    unit_drawn =
        each_up Proper (UnitDrawn (interior min max) v)
        (λ f proper.
        each_those (λ (p : Point). Drawn f (unit_quad_at p)) (visible f v) (scan (interior min max))
        (each_up (Inside (interior min max)) (λ (p : Point). Drawn f (unit_quad_at p)) (λ p i. slice_drawn f proper (unit_quad_at p) (unit_in_slice f (interior min max) p i)) _ (scan_inside (interior min max))))
        faces (faces_proper 0 faces signs)

-- ---- enclosed

module _ (f : OrientedBlockFace) (q : UnorientedQuad) where
  -- No corner is farther from the base than the quad is wide and high.
  far_u_lem : (c : Corner) → far_u f q c ≤ q.width
  far_u_lem MinuMinv = omega arith
  far_u_lem MaxuMinv = omega arith
  far_u_lem MinuMaxv = omega arith
  far_u_lem MaxuMaxv = omega arith

  far_v_lem : (c : Corner) → far_v f q c ≤ q.height
  far_v_lem MinuMinv = omega arith
  far_v_lem MaxuMinv = omega arith
  far_v_lem MinuMaxv = omega arith
  far_v_lem MaxuMaxv = omega arith

  -- A quad's corners lie in their own rectangle.
  pub own_corners : (c : Corner) → InRectangle f q (corner f q c)
  own_corners c = record {
    level = corner_n f q c ∙ sym (corner_n f q MinuMinv);
    u_from = omega (arith, corner_u f q c, corner_u f q MinuMinv);
    u_to = omega (arith, corner_u f q c, corner_u f q MaxuMaxv, far_u_lem c);
    v_from = omega (arith, corner_v f q c, corner_v f q MinuMinv);
    v_to = omega (arith, corner_v f q c, corner_v f q MaxuMaxv, far_v_lem c);
  }

module _ (f : OrientedBlockFace) (q : UnorientedQuad) (p : Point) where
  -- Of a voxel that a quad contains the corners enclose the face,
  contains_encloses : contains f q p ≡ true → Encloses f q p
  contains_encloses h c =
      let i = contains_true f q p h in
      let one = unit_quad_at p in
      let own = own_corners f one c in
      record {
        level = omega (arith, i.level, corner_n f one c, corner_n f q MinuMinv);
        u_from = omega (arith, i.u_from, own.u_from, corner_u f one MinuMinv, corner_u f q MinuMinv);
        u_to = omega (arith, i.u_to, own.u_to, corner_u f one MaxuMaxv, corner_u f q MaxuMaxv);
        v_from = omega (arith, i.v_from, own.v_from, corner_v f one MinuMinv, corner_v f q MinuMinv);
        v_to = omega (arith, i.v_to, own.v_to, corner_v f one MaxuMaxv, corner_v f q MaxuMaxv);
      }

  -- and a voxel whose face they enclose is contained.
  encloses_contains : Encloses f q p → contains f q p ≡ true
  encloses_contains e =
      let one = unit_quad_at p in
      let first = e MinuMinv in
      let last = e MaxuMaxv in
      contains_yes f q p (record {
        level = omega (arith, first.level, corner_n f one MinuMinv, corner_n f q MinuMinv);
        u_from = omega (arith, first.u_from, corner_u f one MinuMinv, corner_u f q MinuMinv);
        u_to = omega (arith, last.u_to, corner_u f one MaxuMaxv, corner_u f q MaxuMaxv);
        v_from = omega (arith, first.v_from, corner_v f one MinuMinv, corner_v f q MinuMinv);
        v_to = omega (arith, last.v_to, corner_v f one MaxuMaxv, corner_v f q MaxuMaxv);
      })

  -- A quad's corners enclose exactly the faces of the voxels that it contains.
  pub encloses_exactly : (contains f q p ≡ true → Encloses f q p) × (Encloses f q p → contains f q p ≡ true)
  encloses_exactly = (contains_encloses, encloses_contains)
