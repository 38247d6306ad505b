-- One admissible rectangle is laid: every point of it was in no quad before, is interior and has a visible face; so a group that was consistent stays so. Nothing here asks what
-- picked the rectangle.
use mathlib.Core.Bool.{Bool, true, false, not, ◌&&◌}
use mathlib.Core.List.{List, [], ◌∷◌, ◌++◌}
use mathlib.Core.Path.{◌≡◌, refl, ◌∙◌, ap}
use Prim.Native.Nat.{ℕ, ◌+◌, ◌≤◌, ◌<◌}
use native.Mathlib.Omega.{arith}
use borrow.Author.Tests.{leb-true, le-leb, not-true}
use Rattle.geometry.specs.declared.axis.Axis.{Axis}
use Rattle.geometry.specs.declared.quad.UnorientedQuad.{UnorientedQuad}
use Rattle.geometry.specs.declared.face.OrientedBlockFace.{OrientedBlockFace}
use Rattle.geometry.specs.Point.{Point, along}
use Rattle.geometry.specs.Axes.{n_axis, u_axis, v_axis, bit}
use Rattle.geometry.specs.Lists.{Each, how_many}
use Rattle.geometry.proofs.Refusals.{split}
use Rattle.geometry.proofs.Tests.{both_true}
use Rattle.geometry.proofs.Frame.{one_point, frame}
use Rattle.geometry.proofs.Lists.{each_up}
use Rattle.voxels.specs.Shape.{Field}
use Rattle.voxels.specs.Extent.{Inside, inside}
use Rattle.voxels.specs.Visible.{visible}
use Rattle.voxels.proofs.Scan.{scan_inside, inside_scan}
use Rattle.voxels.proofs.Times.{inside_yes}
use Rattle.rules.specs.Group.{contains, visited, passes, Pick, Choice, room_u, room_v, quad_of}
use Rattle.rules.specs.Merger.{pick}
use Rattle.rules.specs.Demand.{covers, InSlice, Consistent}
use Rattle.rules.specs.Choices.{Sound, Admissible, voxels_of, all_pass, admissible, admit}
use Rattle.rules.proofs.Counts.{how_many_append}
use Rattle.rules.proofs.Contains.{contains_true, contains_yes, in_voxels, voxels_in}
use Rattle.voxels.specs.declared.extent.Extent.{Extent}

-- ---- covered and visited

module _ (f : OrientedBlockFace) where
  -- A quad more covers what it contains once more.
  pub covers_more : (qs : List UnorientedQuad) (q : UnorientedQuad) (x : Point) → covers f (qs ++ (q ∷ [])) x ≡ covers f qs x + bit (contains f q x)
  unfolding covers how_many
  covers_more qs q x = how_many_append (λ (r : UnorientedQuad). contains f r x) qs (q ∷ []) ∙ omega arith

  -- A visited point is covered,
  pub visited_covered : (qs : List UnorientedQuad) (x : Point) → visited f qs x ≡ true → 1 ≤ covers f qs x
  unfolding covers how_many visited
  visited_covered [] x h = let none : ◌≡◌ {A = ℕ} 0 1 = cc in absurd (omega arith)
  visited_covered (q ∷ qs) x h =
      split (contains f q x)
      (λ t. omega (arith, ap bit t))
      (λ n. omega (arith, visited_covered qs x (rw n at h)))

  -- and another is not.
  pub unvisited_uncovered : (qs : List UnorientedQuad) (x : Point) → visited f qs x ≡ false → covers f qs x ≡ 0
  unfolding covers how_many visited
  unvisited_uncovered [] x h = refl
  unvisited_uncovered (q ∷ qs) x h =
      split (contains f q x)
      (λ t. let none : ◌≡◌ {A = ℕ} 0 1 = cc (rw t at h) in omega arith)
      (λ n. omega (arith, ap bit n, unvisited_uncovered qs x (rw n at h)))

  module _ (v : Field) (qs : List UnorientedQuad) (x : Point) where
    -- A point that passes is not covered, and its face is visible.
    pub passes_uncovered : passes f v qs x ≡ true → covers f qs x ≡ 0
    unfolding passes
    passes_uncovered h = unvisited_uncovered qs x (not-true _ (both_true _ _ h).0)

    pub passes_visible : passes f v qs x ≡ true → visible f v x ≡ true
    unfolding passes
    passes_visible h = (both_true (not (visited f qs x)) _ h).1

    -- One that does not pass, although its face is visible, is covered.
    pub fails_covered : passes f v qs x ≡ false → visible f v x ≡ true → 1 ≤ covers f qs x
    unfolding passes
    fails_covered h e = visited_covered qs x (split (visited f qs x) (λ t. t) (λ n. cc (rw n at h)))

-- ---- the test for admissible picks

pub all_each : {A : Type 0} (test : A → Bool) (l : List A) → all_pass test l ≡ true → Each (λ (a : A). test a ≡ true) l
unfolding all_pass Each
all_each test [] h = tt
all_each test (a ∷ l) h = let both = both_true (test a) _ h in (both.0, all_each test l both.1)

each_all : {A : Type 0} (test : A → Bool) (l : List A) → Each (λ (a : A). test a ≡ true) l → all_pass test l ≡ true
unfolding all_pass Each
each_all test [] h = refl
each_all test (a ∷ l) h = rw h.0 (each_all test l h.1)

module _ (f : OrientedBlockFace) (v : Field) (qs : List UnorientedQuad) (p : Point) (wide high : ℕ) (c : Pick) where
  pub admissible_true : admissible f v qs p wide high c ≡ true → Admissible f v qs p wide high c
  unfolding admissible
  admissible_true h =
      let parts = both_true _ _ h in
      let sizes = both_true _ _ parts.0 in
      let some = both_true _ _ sizes.0 in
      let room = both_true _ _ sizes.1 in
      record {
        some_width = leb-true _ _ some.0;
        some_height = leb-true _ _ some.1;
        width_fits = leb-true _ _ room.0;
        height_fits = leb-true _ _ room.1;
        passing = λ x e.
            inside_scan (λ (y : Point). passes f v qs y ≡ true) (voxels_of f (quad_of p c)) (all_each _ _ parts.1) x
            (in_voxels f (quad_of p c) x (contains_true f (quad_of p c) x e));
      }

  pub admissible_yes : Admissible f v qs p wide high c → admissible f v qs p wide high c ≡ true
  unfolding admissible
  admissible_yes a =
      rw (le-leb _ _ a.some_width, le-leb _ _ a.some_height, le-leb _ _ a.width_fits, le-leb _ _ a.height_fits)
      (each_all (passes f v qs) _ (each_up _ (λ (y : Point). passes f v qs y ≡ true) (λ x i. a.passing x (contains_yes f (quad_of p c) x (voxels_in f (quad_of p c) x i))) _ (scan_inside (voxels_of f (quad_of p c)))))

module _ (f : OrientedBlockFace) (v : Field) where
  -- At a point that passes, with room, 1 by 1 is admissible,
  pub single_admissible : (qs : List UnorientedQuad) (p : Point) (wide high t : ℕ) → passes f v qs p ≡ true → 1 ≤ wide → 1 ≤ high → Admissible f v qs p wide high (pick 1 1 t)
  single_admissible qs p wide high t e w h = record {
    some_width = omega arith;
    some_height = omega arith;
    width_fits = w;
    height_fits = h;
    passing = λ x k.
        let i = contains_true f (quad_of p (pick 1 1 t)) x k in
        let is : x ≡ p = one_point x p ((frame f.permutation).every (λ (a : Axis). along a x ≡ along a p) i.level (omega arith) (omega arith)) in
        rw is e;
  }

  -- so any choice made safe is sound.
  pub admit_sound : (choice : Choice) → Sound f v (admit f v choice)
  unfolding admit
  admit_sound choice qs p wide high e w h =
      split (admissible f v qs p wide high (choice qs p wide high))
      (λ t. rw (t, admit) (admissible_true f v qs p wide high _ t))
      (λ n. rw (n, admit) (single_admissible qs p wide high _ e w h))

  -- A choice that is sound already stays as it is.
  pub sound_admitted : (choice : Choice) → Sound f v choice
      → (qs : List UnorientedQuad) (p : Point) (wide high : ℕ) → passes f v qs p ≡ true → 1 ≤ wide → 1 ≤ high → admit f v choice qs p wide high ≡ choice qs p wide high
  unfolding admit
  sound_admitted choice sound qs p wide high e w h = rw (admissible_yes f v qs p wide high (choice qs p wide high) (sound qs p wide high e w h), admit)

-- ---- the law for one rectangle

-- What a quad within a slice contains lies in the interior.
pub slice_contains : (f : OrientedBlockFace) (inner : Extent) (q : UnorientedQuad) → InSlice f inner q → (x : Point) → contains f q x ≡ true → Inside inner x
slice_contains f inner q within x e =
    let i = contains_true f q x e in
    let n = within.minimum_inside (n_axis f) in
    let u = within.minimum_inside (u_axis f) in
    let v = within.minimum_inside (v_axis f) in
    (frame f.permutation).every (λ (a : Axis). (along a inner.minimum ≤ along a x) × (along a x < along a inner.bound))
    (omega arith, omega arith) (omega arith, omega arith) (omega arith, omega arith)

module _ (f : OrientedBlockFace) (v : Field) (inner : Extent) (qs : List UnorientedQuad) (p : Point) (c : Pick)
    (lies : Inside inner p) (a : Admissible f v qs p (room_u f inner p) (room_v f inner p) c) where
  -- An admissible rectangle lies within its slice,
  pub laid_in_slice : InSlice f inner (quad_of p c)
  laid_in_slice =
      let u = lies (u_axis f) in
      let v = lies (v_axis f) in
      record { minimum_inside = lies; some_width = a.some_width; some_height = a.some_height; within_u = omega arith; within_v = omega arith }

  -- contains the point that it was picked at,
  pub laid_contains : contains f (quad_of p c) p ≡ true
  laid_contains =
      contains_yes f (quad_of p c) p (record { level = refl; u_from = omega arith; u_to = omega arith; v_from = omega arith; v_to = omega arith })

  -- and leaves the group consistent.
  pub laid_consistent : Consistent f v inner qs → Consistent f v inner (qs ++ (quad_of p c ∷ []))
  laid_consistent before x =
      split (contains f (quad_of p c) x)
      (λ t.
      let passed = a.passing x t in
      let here : inside inner x && visible f v x ≡ true = rw (inside_yes inner x (slice_contains f inner (quad_of p c) laid_in_slice x t)) (passes_visible f v qs x passed) in
      omega (arith, covers_more f qs (quad_of p c) x, ap bit t, ap bit here, passes_uncovered f v qs x passed))
      (λ n. omega (arith, covers_more f qs (quad_of p c) x, ap bit n, before x))
