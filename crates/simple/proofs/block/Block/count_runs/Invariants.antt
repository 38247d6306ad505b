use Prim.Native.Nat.{ℕ, ◌-◌}
use lib.ListN.{get_or}
use Rattle.simple.specs.Ready.{offset_of}
use Rattle.simple.specs.Count.{row_shown}
use Rattle.simple.proofs.Sixes.{Growing}
use Rattle.simple.proofs.block.Block.count_runs.Given as goal

abbrev pub invariant-loop-f : goal.invariant-loop-f
invariant-loop-f l = Growing l.initial.counts l.counts (λ (g : ℕ). row_shown l.self.voxels.now (offset_of l.self.strides g) l.long l.at.0 - get_or l.less g 0) l.f
