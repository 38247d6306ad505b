use Prim.Native.Nat.{ℕ}
use Rattle.simple.specs.Ready.{offset_of}
use Rattle.simple.specs.List.{voxel_quad}
use Rattle.simple.proofs.Cursors.{Faced}
use Rattle.simple.proofs.block.Block.list_voxel.Given as goal

abbrev pub invariant-loop-f : goal.invariant-loop-f
invariant-loop-f l = Faced l.initial.out l.initial.cursors (λ (g : ℕ). voxel_quad l.self.voxels.now (offset_of l.self.strides g) l.voxel.point l.voxel.index.0) l.out l.cursors l.f
