-- Whatever picks the rectangles, and wherever a group begins: over interior points a group stays consistent, no point's count goes down, and every point that was scanned is covered
-- where its face is visible. So after a sweep every visible interior point lies in one quad, and no other point in any.
use mathlib.Core.Bool.{true, false, ◌&&◌}
use mathlib.Core.List.{List, [], ◌∷◌, ◌++◌}
use mathlib.Core.Path.{◌≡◌, refl, ap}
use Prim.Native.Nat.{zero-le, ◌≤◌}
use native.Mathlib.Nat.{le_refl, le_trans}
use native.Mathlib.Omega.{arith}
use Rattle.geometry.specs.declared.quad.UnorientedQuad.{UnorientedQuad}
use Rattle.geometry.specs.declared.face.OrientedBlockFace.{OrientedBlockFace}
use Rattle.geometry.specs.Point.{Point}
use Rattle.geometry.specs.Axes.{n_axis, u_axis, v_axis, bit}
use Rattle.geometry.specs.Lists.{Each, how_many}
use Rattle.geometry.proofs.Refusals.{split}
use Rattle.geometry.proofs.Tests.{both_true}
use Rattle.geometry.proofs.Lists.{each_append}
use Rattle.voxels.specs.Shape.{Field}
use Rattle.voxels.specs.Extent.{Inside, inside}
use Rattle.voxels.specs.Visible.{visible}
use Rattle.voxels.proofs.Times.{inside_true}
use Rattle.rules.specs.Group.{sweep, passes, Choice, room_u, room_v, State, scanned, swept, quad_of, group_from}
use Rattle.rules.specs.Demand.{covers, Cover, InSlice, Consistent}
use Rattle.rules.specs.Choices.{Sound, Admissible, admit}
use Rattle.rules.proofs.Sweep.{sweep_inside, inside_sweep}
use Rattle.rules.proofs.Laid.{covers_more, fails_covered, sound_admitted, laid_in_slice, laid_contains, laid_consistent}
use Rattle.voxels.specs.declared.extent.Extent.{Extent}

-- An empty list is consistent.
pub none_consistent : (f : OrientedBlockFace) (v : Field) (inner : Extent) → Consistent f v inner []
unfolding covers how_many
none_consistent f v inner p = zero-le

-- What becomes of a consistent group while points are scanned: it stays consistent, no point's count goes down, and those that were scanned are covered where their faces are visible.
pub record Scanned (f : OrientedBlockFace) (v : Field) (inner : Extent) (s t : State) (ps : List Point) : Type 0 where
  pub consistent : Consistent f v inner t.quads
  pub grows : (x : Point) → covers f s.quads x ≤ covers f t.quads x
  pub done : Each (λ (p : Point). visible f v p ≡ true → 1 ≤ covers f t.quads p) ps

module _ (f : OrientedBlockFace) (v : Field) (inner : Extent) (choice : Choice) where
  -- The quad that a point which passes gives.
  abbrev pub found : List UnorientedQuad → Point → UnorientedQuad
  found qs p = quad_of p (choice qs p (room_u f inner p) (room_v f inner p))

  -- A point that does not pass leaves the quads as they are, and another adds one.
  pub scanned_fails : (s : State) (p : Point) → passes f v s.quads p ≡ false → (scanned f v inner choice s p).quads ≡ s.quads
  unfolding scanned
  scanned_fails s p e = rw (e, scanned)

  pub scanned_passes : (s : State) (p : Point) → passes f v s.quads p ≡ true → (scanned f v inner choice s p).quads ≡ s.quads ++ (found s.quads p ∷ [])
  unfolding scanned
  scanned_passes s p e = rw (e, scanned)

  -- What holds of each quad to begin with, and of each that is found, holds of each in the end.
  pub found_each : (P : UnorientedQuad → Type 0)
      → ((qs : List UnorientedQuad) (p : Point) → Inside inner p → passes f v qs p ≡ true → P (found qs p))
      → (s : State) (ps : List Point) → Each (Inside inner) ps → Each P s.quads → Each P (swept f v inner choice s ps).quads
  unfolding swept Each
  found_each P new s [] h each = each
  found_each P new s (p ∷ ps) h each =
      found_each P new (scanned f v inner choice s p) ps h.1
      (split (passes f v s.quads p)
      (λ t. rw (scanned_passes s p t) (each_append P s.quads _ each (new s.quads p h.0 t, tt)))
      (λ n. rw (scanned_fails s p n) each))

  module _ (sound : Sound f v choice) where
    -- What a sound choice picks at an interior point that passes is admissible.
    pub found_admissible : (qs : List UnorientedQuad) (p : Point) → Inside inner p → passes f v qs p ≡ true
        → Admissible f v qs p (room_u f inner p) (room_v f inner p) (choice qs p (room_u f inner p) (room_v f inner p))
    found_admissible qs p lies e =
        let u = lies (u_axis f) in
        let w = lies (v_axis f) in
        sound qs p (room_u f inner p) (room_v f inner p) e (omega arith) (omega arith)

    -- One point,
    scans : (s : State) (p : Point) → Inside inner p → Consistent f v inner s.quads → Scanned f v inner s (scanned f v inner choice s p) (p ∷ [])
    unfolding Each
    scans s p lies before =
        split (passes f v s.quads p)
        (λ t.
        let a = found_admissible s.quads p lies t in
        let q : UnorientedQuad = found s.quads p in
        record {
          consistent = rw (scanned_passes s p t) (laid_consistent f v inner s.quads p _ lies a before);
          grows = λ x. rw (scanned_passes s p t) (omega (arith, covers_more f s.quads q x));
          done = (λ e. rw (scanned_passes s p t) (omega (arith, covers_more f s.quads q p, ap bit (laid_contains f v inner s.quads p _ lies a))), tt);
        })
        (λ n. record {
          consistent = rw (scanned_fails s p n) before;
          grows = λ x. rw (scanned_fails s p n) (le_refl _);
          done = (λ e. rw (scanned_fails s p n) (fails_covered f v s.quads p n e), tt);
        })

    -- and many.
    pub sweeps : (s : State) (ps : List Point) → Each (Inside inner) ps → Consistent f v inner s.quads → Scanned f v inner s (swept f v inner choice s ps) ps
    unfolding swept Each
    sweeps s [] h before = record { consistent = before; grows = λ x. le_refl _; done = tt }
    sweeps s (p ∷ ps) h before =
        let first = scans s p h.0 before in
        let rest = sweeps (scanned f v inner choice s p) ps h.1 first.consistent in
        record {
          consistent = rest.consistent;
          grows = λ x. le_trans (first.grows x) (rest.grows x);
          done = (λ e. le_trans (first.done.0 e) (rest.grows p), rest.done);
        }

    -- From any consistent start the group is a cover.
    pub sound_cover : (s : State) → Consistent f v inner s.quads → Cover f v inner (group_from f v inner choice s).quads
    sound_cover s before p =
        let end = sweeps s (sweep (n_axis f) inner) (sweep_inside (n_axis f) inner) before in
        split (inside inner p && visible f v p)
        (λ t.
        let both = both_true (inside inner p) _ t in
        let lo = inside_sweep (n_axis f) inner _ end.done p (inside_true inner p both.0) both.1 in
        omega (arith, end.consistent p, ap bit t))
        (λ n. omega (arith, end.consistent p, ap bit n))

    -- Each quad lies within a slice, where each of the start does.
    pub sound_in_slice : (s : State) → Each (InSlice f inner) s.quads → Each (InSlice f inner) (group_from f v inner choice s).quads
    sound_in_slice s before =
        found_each (InSlice f inner) (λ qs p lies e. laid_in_slice f v inner qs p _ lies (found_admissible qs p lies e)) s (sweep (n_axis f) inner) (sweep_inside (n_axis f) inner) before

    -- A sound choice gives the same made safe, at one point
    scanned_same : (s : State) (p : Point) → Inside inner p → scanned f v inner (admit f v choice) s p ≡ scanned f v inner choice s p
    unfolding scanned
    scanned_same s p lies =
        let u = lies (u_axis f) in
        let w = lies (v_axis f) in
        split (passes f v s.quads p)
        (λ t. rw (t, scanned, sound_admitted f v choice sound s.quads p (room_u f inner p) (room_v f inner p) t (omega arith) (omega arith)))
        (λ n. rw (n, scanned))

    -- and at many.
    swept_same : (s : State) (ps : List Point) → Each (Inside inner) ps → swept f v inner (admit f v choice) s ps ≡ swept f v inner choice s ps
    unfolding swept Each
    swept_same s [] h = refl
    swept_same s (p ∷ ps) h = rw (scanned_same s p h.0) (swept_same (scanned f v inner choice s p) ps h.1)

    pub sound_same : (s : State) → group_from f v inner (admit f v choice) s ≡ group_from f v inner choice s
    sound_same s = swept_same s (sweep (n_axis f) inner) (sweep_inside (n_axis f) inner)
