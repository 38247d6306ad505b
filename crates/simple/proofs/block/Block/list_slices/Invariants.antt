use Prim.Native.Nat.{ℕ}
use Rattle.geometry.specs.Point.{at}
use Rattle.simple.specs.Ready.{offset_of}
use Rattle.simple.specs.Count.{rows_shown}
use Rattle.simple.specs.List.{rows_quads}
use Rattle.simple.proofs.Cursors.{Listing}
use Rattle.simple.proofs.block.Block.list_slices.Given as goal

abbrev pub invariant-loop-k : goal.invariant-loop-k
invariant-loop-k l = Listing l.slices.stride.0 (λ (f z : ℕ). rows_quads l.self.voxels.now (offset_of l.self.strides f) l.slices.rows (at l.start.x l.start.y z)) (λ (f : ℕ). rows_shown l.self.voxels.now (offset_of l.self.strides f) l.slices.rows) l.start.z l.from.index.0 l.slices.deep l.initial.out l.initial.cursors l.out l.cursors l.k
