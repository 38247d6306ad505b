use Rattle.std.proofs.Common.{◌*◌, drop}
use Rattle.saved.specs.Bytes.{written32, written_all}
use Rattle.saved.proofs.Filling.{Filled}
use Rattle.saved.proofs.write.numbers.Given as goal

abbrev pub invariant-loop-k : goal.invariant-loop-k
invariant-loop-k l = Filled (written_all written32 (drop l.k l.list)) l.out (4 * l.k) (written_all written32 l.list)
