-- `read` has put what it took of the input at the start of the bytes; each turn leaves less to fill.
use Rattle.std.proofs.Common.{◌-◌, ◌≤◌, length, take}
use Rattle.std.specs.Io.KnownBytes.{Consumes}
use Rattle.calls.proofs.read.Given as goal

abbrev pub invariant-loop-got : goal.invariant-loop-got
invariant-loop-got g l = record {
  within : l.got ≤ length l.room;
  taken : Consumes (g.R.Read.remaining l.fn.input) (g.R.Read.remaining l.input) (take l.got l.room);
}

abbrev pub decreases-loop-got : goal.decreases-loop-got
decreases-loop-got g l = length l.room - l.got
