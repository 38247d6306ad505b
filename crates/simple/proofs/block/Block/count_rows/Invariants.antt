use Prim.Native.Nat.{ℕ}
use Rattle.simple.specs.Ready.{offset_of}
use Rattle.simple.specs.Count.{row_shown}
use Rattle.simple.proofs.Counting.{Counting}
use Rattle.simple.proofs.block.Block.count_rows.Given as goal

abbrev pub invariant-loop-k : goal.invariant-loop-k
invariant-loop-k l = Counting l.initial.counts l.counts (λ (f : ℕ). row_shown l.self.voxels.now (offset_of l.self.strides f) l.rows.wide) l.rows.stride.0 l.at.0 l.rows.high l.k
