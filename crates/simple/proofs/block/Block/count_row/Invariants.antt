use Prim.Native.Nat.{ℕ}
use Rattle.simple.specs.Ready.{offset_of}
use Rattle.simple.specs.Count.{shown_at}
use Rattle.simple.proofs.Counting.{Counting}
use Rattle.simple.proofs.block.Block.count_row.Given as goal

abbrev pub invariant-loop-k : goal.invariant-loop-k
invariant-loop-k l = Counting l.initial.counts l.counts (λ (f : ℕ). shown_at l.self.voxels.now (offset_of l.self.strides f)) 1 l.at.0 l.wide l.k
