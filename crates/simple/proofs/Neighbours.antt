-- What a voxel shows to its neighbour, and where the neighbours of a row are.
use mathlib.Core.Bool.{true, false}
use mathlib.Core.List.{List}
use mathlib.Core.Path.{◌≡◌, sym}
use Prim.Native.Nat.{ℕ, ◌+◌, ◌*◌, ◌≤◌, ◌<◌}
use native.Mathlib.Nat.{mul-one}
use native.Mathlib.Omega.{arith}
use lib.ListN.{get_or}
use lib.Dec.{ltb}
use borrow.Author.Tests.{lt-ltb, le-ltb, ltb-true, ltb-false}
use mir.Val.{bool_byte}
use Rattle.geometry.proofs.Refusals.{split}
use Rattle.geometry.specs.Axes.{bit}
use Rattle.voxels.specs.Voxel.{merge_values, class, shows}
use Rattle.voxels.specs.Visible.{offset_index}
use Rattle.voxels.specs.Entered.{most_voxels, longest}
use Rattle.voxels.proofs.Voxels.{shows_below}
use Rattle.simple.specs.Ready.{shows_at, VoxelReady, RowReady}

-- ---- a voxel that is not bad

module _ (v w : ℕ) (sound : class v ≤ 2) where
  -- It shows its face to a lower class,
  pub shows_lower : {own other : ℕ} → own ≡ class v → other ≡ class w → other < own → 1 ≡ bit (shows v w)
  unfolding class
  shows_lower is-own is-other h = rw (shows_below v w sound, lt-ltb w (class v * merge_values) (omega arith))

  -- and to no other.
  pub hides_higher : {own other : ℕ} → own ≡ class v → other ≡ class w → own ≤ other → 0 ≡ bit (shows v w)
  unfolding class
  hides_higher is-own is-other h = rw (shows_below v w sound, le-ltb w (class v * merge_values) (omega arith))

  -- So the test of the two classes tells.
  pub shown_by_test : {own other : ℕ} → own ≡ class v → other ≡ class w → bool_byte (ltb other own) ≡ bit (shows v w)
  shown_by_test {own} {other} is-own is-other =
      split (ltb other own)
      (λ t. rw t (shows_lower is-own is-other (ltb-true other own t)))
      (λ f. rw f (hides_higher is-own is-other (ltb-false other own f)))

module _ (vs : List ℕ) (offset i : ℕ) (sound : class (get_or vs i 0) ≤ 2) {sight : ℕ} (is : sight ≡ class (get_or vs i 0) * merge_values) {j : ℕ} (at_j : j ≡ offset_index i offset) where
  -- It shows its face to what lies below its sight,
  pub seen : get_or vs j 0 < sight → shows_at vs offset i ≡ true
  unfolding shows_at
  seen h = rw (← at_j, shows_below (get_or vs i 0) (get_or vs j 0) sound, ← is) (lt-ltb (get_or vs j 0) sight h)

  -- and to nothing else.
  pub unseen : sight ≤ get_or vs j 0 → shows_at vs offset i ≡ false
  unfolding shows_at
  unseen h = rw (← at_j, shows_below (get_or vs i 0) (get_or vs j 0) sound, ← is) (le-ltb (get_or vs j 0) sight h)

-- ---- a row

-- A row is ready where each of its voxels is.
pub row_of_voxels : {voxels : List ℕ} {offset i wide : ℕ} → ((k : ℕ) → k < wide → VoxelReady voxels offset (i + k)) → i + wide ≤ 2 * most_voxels → (0 < wide → offset_index i offset + wide ≤ 2 * most_voxels) → wide ≤ longest
    → RowReady voxels offset i wide
row_of_voxels each last near short = record { steps = record { each = λ k h. rw mul-one (each k h); last = omega arith; apart = omega arith }; near = near; short = short }

module _ {voxels : List ℕ} {offset i wide : ℕ} (ready : RowReady voxels offset i wide) where
  pub voxel_ready : (k : ℕ) → k < wide → VoxelReady voxels offset (i + k)
  voxel_ready k h = rw mul-one at (ready.steps.each k h)

  pub row_last : i + wide ≤ 2 * most_voxels
  row_last = omega (arith, ready.steps.last)

-- The neighbours' indices do not wrap on the way,
pub on_way : (o i k : ℕ) → offset_index i o ≤ 2 * most_voxels → k ≤ longest → offset_index (i + k) o ≡ offset_index i o + k
on_way o i k h l = omega arith

-- so that the neighbour of a row's k-th voxel is the k-th after the first's.
pub beyond_at : (voxels : List ℕ) (offset i wide : ℕ) → RowReady voxels offset i wide → (k : ℕ) → k < wide → offset_index i offset + k ≡ offset_index (i + k) offset
beyond_at voxels offset i wide ready k h = sym (on_way offset i k (omega (arith, ready.near (omega arith))) (omega (arith, ready.short)))
