use Rattle.std.proofs.Common.{◌-◌, ◌*◌, length, drop}
use Rattle.saved.specs.Bytes.{number32, read_all}
use Rattle.saved.proofs.Filling.{Filled}
use Rattle.saved.proofs.read.take_numbers.Given as goal

abbrev pub invariant-loop-k : goal.invariant-loop-k
invariant-loop-k l = Filled (read_all 4 number32 (length l.initial.out - l.k) (drop (4 * l.k) l.bytes)) l.out l.k (read_all 4 number32 (length l.initial.out) l.bytes)
