-- When a voxel shows its face, from the classes of the two, test by test.
use Rattle.std.proofs.Common.{◌≡◌, ℕ, ◌*◌, ◌<◌, ◌≤◌, true, false, eqb, ltb, arith, le-ltb, lt-ltb, eq-eqb, ne_eqb, eqb-true}
use borrow.Author.Tests.{eqb-false}
use Rattle.geometry.proofs.Refusals.{split}
use Rattle.voxels.specs.Voxel.{merge_values, class, shows}

module _ (v w own : ℕ) (is-own : own ≡ class v) where
  -- An empty voxel shows nothing,
  pub empty_hides : own ≡ 0 → false ≡ shows v w
  unfolding shows
  empty_hides e = rw (← is-own, eq-eqb own 0 e)

  module _ (some : own ≡ 0 → ⊥) (other : ℕ) (is-other : other ≡ class w) where
    -- another shows its face to an empty neighbour,
    pub shows_to_empty : other ≡ 0 → true ≡ shows v w
    unfolding shows
    shows_to_empty e = rw (← is-own, ← is-other, ne_eqb own 0 some, eq-eqb other 0 e)

    module _ (filled : other ≡ 0 → ⊥) where
      -- to a translucent one where it is opaque,
      pub shows_to_translucent : other ≡ 1 → eqb own 2 ≡ shows v w
      unfolding shows
      shows_to_translucent e = rw (← is-own, ← is-other, ne_eqb own 0 some, ne_eqb other 0 filled, eq-eqb other 1 e)

      -- and to no other.
      pub others_hide : (other ≡ 1 → ⊥) → false ≡ shows v w
      unfolding shows
      others_hide d = rw (← is-own, ← is-other, ne_eqb own 0 some, ne_eqb other 0 filled, ne_eqb other 1 d)

-- A voxel of 16 bits has a class up to 3.
pub class_small : (v : ℕ) {own : ℕ} → own ≡ class v → v < 65_536 → own ≤ 3
unfolding class
class_small v is h = omega arith

-- A voxel that is not bad shows its face to the numbers below where its class begins.
pub shows_below : (v w : ℕ) → class v ≤ 2 → shows v w ≡ ltb w (class v * merge_values)
unfolding shows class
shows_below v w h =
    split (eqb (class v) 0)
    (λ t. let e = eqb-true (class v) 0 t in rw (t, le-ltb w (class v * merge_values) (omega arith)))
    (λ f.
    let d = eqb-false (class v) 0 f in
    split (eqb (class w) 0)
    (λ t. let e = eqb-true (class w) 0 t in rw (f, t, lt-ltb w (class v * merge_values) (omega arith)))
    (λ g.
    let n = eqb-false (class w) 0 g in
    split (eqb (class w) 1)
    (λ t.
    let e = eqb-true (class w) 1 t in
    split (eqb (class v) 2)
    (λ u. let m = eqb-true (class v) 2 u in rw (f, g, t, u, lt-ltb w (class v * merge_values) (omega arith)))
    (λ u. let m = eqb-false (class v) 2 u in rw (f, g, t, u, le-ltb w (class v * merge_values) (omega arith))))
    (λ t. let o = eqb-false (class w) 1 t in rw (f, g, t, le-ltb w (class v * merge_values) (omega arith)))))
