use mathlib.Core.Path.{◌≡◌}
use Prim.Native.Nat.{ℕ, ◌+◌}
use Rattle.geometry.specs.Point.{at}
use Rattle.simple.specs.Ready.{offset_of}
use Rattle.simple.specs.Count.{shown_at}
use Rattle.simple.specs.List.{voxel_quad}
use Rattle.simple.proofs.Cursors.{Listing}
use Rattle.simple.proofs.block.Block.list_row.Given as goal

abbrev pub invariant-loop-k : goal.invariant-loop-k
invariant-loop-k l = (l.i ≡ l.initial.i + l.k) × Listing 1 (λ (f x : ℕ). voxel_quad l.self.voxels.now (offset_of l.self.strides f) (at x l.start.y l.start.z)) (λ (f : ℕ). shown_at l.self.voxels.now (offset_of l.self.strides f)) l.start.x l.initial.i l.wide l.initial.out l.initial.cursors l.out l.cursors l.k
