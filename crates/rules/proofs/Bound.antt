-- Tests: one for each point that is scanned, and for each rectangle at most three a voxel. So a group's tests are at most the points scanned and three times its areas.
use mathlib.Core.List.{List, [], ◌∷◌}
use Prim.Native.Nat.{◌+◌, ◌*◌, ◌≤◌}
use native.Mathlib.Omega.{arith}
use lib.ListN.{length}
use Rattle.geometry.specs.declared.face.OrientedBlockFace.{OrientedBlockFace}
use Rattle.geometry.specs.Point.{Point}
use Rattle.geometry.specs.Axes.{u_axis}
use Rattle.geometry.specs.Lists.{Each}
use Rattle.geometry.proofs.Refusals.{split}
use Rattle.voxels.specs.Shape.{Field}
use Rattle.voxels.specs.Extent.{Inside}
use Rattle.rules.specs.Group.{passes, room_u, room_v, State, scanned, swept}
use Rattle.rules.specs.Merger.{voxel_merger}
use Rattle.rules.specs.Demand.{area, sum_of}
use Rattle.rules.proofs.Counts.{sum_append}
use Rattle.rules.proofs.Covers.{found}
use Rattle.rules.proofs.Picks.{walk_cheap}
use Rattle.voxels.specs.declared.extent.Extent.{Extent}

module _ (f : OrientedBlockFace) (v : Field) (inner : Extent) where
  -- What scanning a point adds to the tests is at most one, and three times what it adds to the areas;
  scan_cost : (s : State) (p : Point) → Inside inner p
      → (scanned f v inner (voxel_merger f v) s p).tests + 3 * sum_of area s.quads ≤ s.tests + 1 + 3 * sum_of area (scanned f v inner (voxel_merger f v) s p).quads
  unfolding scanned sum_of
  scan_cost s p lies =
      let u = lies (u_axis f) in
      split (passes f v s.quads p)
      (λ t.
      rw (t, scanned)
      (omega (arith, walk_cheap f v s.quads p (room_u f inner p) (room_v f inner p) t (omega arith), sum_append area s.quads (found f v inner (voxel_merger f v) s.quads p ∷ []))))
      (λ n. rw (n, scanned) (omega arith))

  -- and so for many points.
  pub sweep_cost : (s : State) (ps : List Point) → Each (Inside inner) ps
      → (swept f v inner (voxel_merger f v) s ps).tests + 3 * sum_of area s.quads ≤ s.tests + length ps + 3 * sum_of area (swept f v inner (voxel_merger f v) s ps).quads
  unfolding swept Each
  sweep_cost s [] h = omega arith
  sweep_cost s (p ∷ ps) h = omega (arith, scan_cost s p h.0, sweep_cost (scanned f v inner (voxel_merger f v) s p) ps h.1)
