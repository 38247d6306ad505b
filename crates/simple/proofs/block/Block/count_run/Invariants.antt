use mathlib.Core.Path.{◌≡◌}
use Rattle.simple.specs.Count.{row_shown}
use Rattle.simple.proofs.block.Block.count_run.Given as goal

abbrev pub invariant-loop-k : goal.invariant-loop-k
invariant-loop-k l = l.count ≡ row_shown l.self.voxels.now l.fn.stride.0 l.k l.i
