-- How many times a point stands in a list: in scan order every point of an extent stands once, and no other point does.
use Rattle.std.proofs.Common.{◌≡◌, ℕ, zero, suc, ◌+◌, ◌*◌, ◌<◌, ◌≤◌, Bool, true, false, eqb, ltb, leb, List, [], ◌∷◌, ◌++◌, sym, refl, ap, ◌∙◌, add-zero, zero-add, arith, ltb-true, lt-ltb, eq-eqb, ne_eqb, eqb-true, le-leb, leb-true}
use borrow.Author.Tests.{eqb-false}
use Rattle.geometry.specs.declared.axis.Axis.TheVariants.{X, Y, Z}
use Rattle.geometry.specs.Point.{Point, at, along}
use Rattle.geometry.specs.Axes.{bit}
use Rattle.geometry.specs.Lists.{those, Each}
use Rattle.geometry.proofs.Refusals.{split}
use Rattle.geometry.proofs.Tests.{both_true}
use Rattle.geometry.proofs.Lists.{each_up}
use Rattle.voxels.specs.Extent.{Inside, scan, between, inside, same_point, times}
use Rattle.voxels.specs.Loop.{looped, step_by, every}
use Rattle.voxels.proofs.Loops.{onward_by, loop_keeps}
use Rattle.voxels.proofs.Scan.{each_every, scan_inside}
use Rattle.voxels.specs.declared.extent.Extent.{Extent}

-- ---- tests

between_true : (a b k : ℕ) → between a b k ≡ true → (a ≤ k) × (k < b)
unfolding between
between_true a b k h = let t = both_true (leb a k) (ltb k b) h in (leb-true a k t.0, ltb-true k b t.1)

between_yes : (a b k : ℕ) → a ≤ k → k < b → between a b k ≡ true
unfolding between
between_yes a b k l h = rw (le-leb a k l, lt-ltb k b h)

-- The test for an extent says whether a point lies in it.
pub inside_true : (e : Extent) (p : Point) → inside e p ≡ true → Inside e p
unfolding inside along
inside_true e p h =
    let zs = both_true _ _ h in
    let xy = both_true _ _ zs.0 in
    elim [
      | X ↦ between_true e.minimum.x e.bound.x p.x xy.0
      | Y ↦ between_true e.minimum.y e.bound.y p.y xy.1
      | Z ↦ between_true e.minimum.z e.bound.z p.z zs.1
    ]

pub inside_yes : (e : Extent) (p : Point) → Inside e p → inside e p ≡ true
unfolding inside along
inside_yes e p i =
    rw (between_yes e.minimum.x e.bound.x p.x (i X).0 (i X).1, between_yes e.minimum.y e.bound.y p.y (i Y).0 (i Y).1, between_yes e.minimum.z e.bound.z p.z (i Z).0 (i Z).1)

pub same_true : (p q : Point) → same_point p q ≡ true → p ≡ q
unfolding same_point
same_true p q h =
    let zs = both_true _ _ h in
    let xy = both_true _ _ zs.0 in
    rw (eqb-true p.x q.x xy.0, eqb-true p.y q.y xy.1, eqb-true p.z q.z zs.1)

pub same_itself : (p : Point) → same_point p p ≡ true
unfolding same_point
same_itself p = rw (eq-eqb p.x p.x refl, eq-eqb p.y p.y refl, eq-eqb p.z p.z refl)

-- ---- times

module _ (p : Point) where
  times_append : (l m : List Point) → times p (l ++ m) ≡ times p l + times p m
  unfolding times
  times_append [] m = sym (zero-add (times p m))
  times_append (q ∷ l) m = omega (arith, times_append l m)

  -- A point that is none of a list stands there no time.
  pub times_none : (l : List Point) → Each (λ (q : Point). same_point p q ≡ false) l → times p l ≡ 0
  unfolding times Each
  times_none [] h = refl
  times_none (q ∷ l) h = rw h.0 (zero-add (times p l) ∙ times_none l h.1)

  -- In a loop whose lists have the point at one number alone, it stands as often as there.
  times_one : (g : ℕ → List Point) (q : ℕ) → ((k : ℕ) → (k ≡ q → ⊥) → times p (g k) ≡ 0) → (n a : ℕ) → a ≤ q → q < a + n → times p (every 1 a n g) ≡ times p (g q)
  unfolding looped times
  times_one g q off zero a l h = let none : ⊥ = omega arith in absurd none
  times_one g q off (suc n) a l h =
      times_append (g a) (every 1 (a + 1) n g)
      ∙ split (eqb a q)
      (λ t.
      let is = eqb-true a q t in
      let rest : times p (every 1 (a + 1) n g) ≡ 0 = times_past g q off n (a + 1) (omega arith) in
      rw (rest, is) (add-zero (times p (g q))))
      (λ f.
      let other = eqb-false a q f in
      rw (off a other) (zero-add (times p (every 1 (a + 1) n g)) ∙ times_one g q off n (a + 1) (omega arith) (omega arith)))
    where
      times_past : (g : ℕ → List Point) (q : ℕ) → ((k : ℕ) → (k ≡ q → ⊥) → times p (g k) ≡ 0) → (n a : ℕ) → q < a → times p (every 1 a n g) ≡ 0
      times_past g q off n a h = loop_keeps {join = ◌++◌} (λ (l : List Point). times p l ≡ 0) refl (λ l m first rest. rw (times_append l m, first, rest)) (step_by 1) g n a (λ k l. rw (onward_by 1 a k) (off _ (λ e. omega arith)))

  -- A row, and rows, that lie elsewhere do not have the point.
  other_x : (x y z : ℕ) → (x ≡ p.x → ⊥) → times p (at x y z ∷ []) ≡ 0
  unfolding times same_point
  other_x x y z d = rw (ne_eqb p.x x (λ e. d (sym e)))

  other_y : (a n y z : ℕ) → (y ≡ p.y → ⊥) → times p (every 1 a n (λ (x : ℕ). at x y z ∷ [])) ≡ 0
  unfolding same_point Each
  other_y a n y z d =
      times_none _ (each_every _ _ n a (λ k h. (apart k, tt)))
    where
      apart : (k : ℕ) → same_point p (at (a + k) y z) ≡ false
      apart k = split (eqb p.x (a + k)) (λ t. rw (t, ne_eqb p.y y (λ e. d (sym e)))) (λ f. rw f)

  other_z : (a n b m z : ℕ) → (z ≡ p.z → ⊥) → times p (every 1 b m (λ (y : ℕ). every 1 a n (λ (x : ℕ). at x y z ∷ []))) ≡ 0
  unfolding same_point Each
  other_z a n b m z d =
      times_none _ (each_every _ _ m b (λ j hj. each_every _ _ n a (λ k h. (apart j k, tt))))
    where
      apart : (j k : ℕ) → same_point p (at (a + k) (b + j) z) ≡ false
      apart j k =
          split (eqb p.x (a + k))
          (λ t. split (eqb p.y (b + j)) (λ u. rw (t, u, ne_eqb p.z z (λ e. d (sym e)))) (λ f. rw (t, f)))
          (λ f. rw f)

  -- A point of an extent stands in the scan once,
  scan_in : (e : Extent) → Inside e p → times p (scan e) ≡ 1
  unfolding scan times along
  scan_in e i =
      times_one _ p.z (λ k d. other_z e.minimum.x _ e.minimum.y _ k d) _ e.minimum.z (i Z).0 (omega (arith, i Z))
      ∙ times_one _ p.y (λ k d. other_y e.minimum.x _ k p.z d) _ e.minimum.y (i Y).0 (omega (arith, i Y))
      ∙ times_one _ p.x (λ k d. other_x k p.y p.z d) _ e.minimum.x (i X).0 (omega (arith, i X))
      ∙ ap (λ (b : Bool). bit b + 0) (same_itself p)

  -- and another does not.
  scan_out : (e : Extent) → inside e p ≡ false → times p (scan e) ≡ 0
  scan_out e h =
      times_none (scan e)
      (each_up (Inside e) (λ (q : Point). same_point p q ≡ false)
      (λ q i. split (same_point p q) (λ t. cc (inside_yes e q i, same_true p q t, h)) (λ f. f))
      (scan e) (scan_inside e))

  pub scan_once : (e : Extent) → times p (scan e) ≡ bit (inside e p)
  scan_once e = split (inside e p) (λ t. rw t (scan_in e (inside_true e p t))) (λ f. rw f (scan_out e f))

  -- Of those that pass a test a point stands as often as before, or no time.
  pub times_those : (test : Point → Bool) (l : List Point) → times p (those test l) ≡ bit (test p) * times p l
  unfolding times those
  times_those test [] = omega arith
  times_those test (q ∷ l) =
      let before = times_those test l in
      split (same_point p q)
      (λ s.
      let at_p : test p ≡ test q = ap test (same_true p q s) in
      split (test q)
      (λ t. rw (t, those, at_p ∙ t, s) (omega (arith, rw (at_p ∙ t) at before)))
      (λ f. rw (f, those, at_p ∙ f) (omega (arith, rw (at_p ∙ f) at before))))
      (λ o.
      split (test q)
      (λ t. rw (t, those, o, zero-add (times p l)) (zero-add (times p (those test l)) ∙ before))
      (λ f. rw (f, those, o, zero-add (times p l)) before))
