use Prim.Native.Nat.{ℕ}
use Rattle.simple.specs.Ready.{offset_of}
use Rattle.simple.specs.Count.{shown_at}
use Rattle.simple.proofs.Sixes.{Growing}
use Rattle.simple.proofs.block.Block.count_voxel.Given as goal

abbrev pub invariant-loop-f : goal.invariant-loop-f
invariant-loop-f l = Growing l.initial.counts l.counts (λ (g : ℕ). shown_at l.self.voxels.now (offset_of l.self.strides g) l.index.0) l.f
