use Prim.Native.Nat.{ℕ}
use Rattle.geometry.specs.Point.{at}
use Rattle.simple.specs.Ready.{offset_of}
use Rattle.simple.specs.Count.{row_shown}
use Rattle.simple.specs.List.{row_quads}
use Rattle.simple.proofs.Cursors.{Listing}
use Rattle.simple.proofs.block.Block.list_slice.Given as goal

abbrev pub invariant-loop-k : goal.invariant-loop-k
invariant-loop-k l = Listing l.rows.stride.0 (λ (f y : ℕ). row_quads l.self.voxels.now (offset_of l.self.strides f) l.rows.wide (at l.start.x y l.start.z)) (λ (f : ℕ). row_shown l.self.voxels.now (offset_of l.self.strides f) l.rows.wide) l.start.y l.from.index.0 l.rows.high l.initial.out l.initial.cursors l.out l.cursors l.k
