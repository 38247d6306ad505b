-- For src/merge_strategy.rt, and `face_needs_mesh` and `idle` of src/lib.rt: the tests of voxels and the walk, by indices. That a walk by indices is the rule's is `quad_same` (proofs/Told.antt).
use Rattle.std.specs.Prelude.{Bool, true, false, ◌&&◌, List, ◌≡◌, ℕ, ◌+◌, ◌-◌, ◌*◌, ◌≤◌, ◌<◌, eqb, get_or}
use Rattle.voxels.specs.Voxel.{shows, uniform}
use Rattle.voxels.specs.Visible.{offset_index}
use Rattle.voxels.specs.Entered.{most_voxels}
use Rattle.voxels.specs.Loop.{step_by}
use Rattle.rules.specs.Group.{Pick}
use Rattle.rules.specs.Merger.{Walked, walked, walked_rows}

-- ---- the test of a voxel

-- A voxel's test: its byte is 0, and it shows its face to the one that the offset leads to.
unfoldable pub needs_at : List ℕ → List ℕ → ℕ → ℕ → Bool
needs_at voxels marks offset i = eqb (get_or marks i 0) 0 && shows (get_or voxels i 0) (get_or voxels (offset_index i offset) 0)

-- The same, and it is uniform with a voxel.
unfoldable pub joins_at : List ℕ → List ℕ → ℕ → ℕ → ℕ → Bool
joins_at voxels marks offset first i = needs_at voxels marks offset i && uniform first (get_or voxels i 0)

-- What a test at an index reads was lent.
pub record Touches (voxels marks offset i : ℕ) : Type 0 where
  pub mark : i < marks
  pub here : i < voxels
  pub beyond : offset_index i offset < voxels

-- So what a row walk reads, and its indices fit.
pub record WalkReady (voxels marks offset i d most : ℕ) : Type 0 where
  pub each : (k : ℕ) → k < most → Touches voxels marks offset (i + k * d)
  pub last : i + most * d ≤ 2 * most_voxels

-- So many voxels from an index on, a stride apart, need no mesh, and the one after them does, unless they are as many as were asked for.
pub record Idle (voxels marks : List ℕ) (offset i d most got : ℕ) : Type 0 where
  pub within : got ≤ most
  pub passed : (k : ℕ) → k < got → needs_at voxels marks offset (i + k * d) ≡ false
  pub stopped : got < most → needs_at voxels marks offset (i + got * d) ≡ true

-- ---- the walk

-- A row walk by indices, a stride apart.
unfoldable pub row_at : List ℕ → List ℕ → ℕ → ℕ → ℕ → ℕ → ℕ → Walked
row_at voxels marks offset first d most i = walked (joins_at voxels marks offset first) (step_by d) i most

-- The walk's rectangle by indices: `VoxelMerger` with the strides of u and v.
unfoldable pub quad_at : List ℕ → List ℕ → ℕ → ℕ → ℕ → ℕ → ℕ → ℕ → Pick
quad_at voxels marks offset du dv wide high i =
    let w : Walked = row_at voxels marks offset (get_or voxels i 0) du wide i in
    let h : Walked = walked_rows (row_at voxels marks offset (get_or voxels i 0) du w.got) w.got (step_by dv) (step_by dv i) (high - 1) in
    record { width = w.got; height = 1 + h.got; tests = w.tests + h.tests }

-- What a rectangle's walks read was lent: so many rows, a stride apart.
pub record QuadReady (voxels marks offset i du wide dv high : ℕ) : Type 0 where
  pub each : (k : ℕ) → k < high → WalkReady voxels marks offset (i + k * dv) du wide
  pub last : i + high * dv ≤ 2 * most_voxels
  pub wide_some : 0 < wide
  pub high_some : 0 < high
