-- `run` has written the lines before those that are left: whatever is written of these comes behind them.
use Rattle.std.proofs.Common.{ℕ, List, Option, IfSome, length}
use Rattle.std.specs.Io.KnownBytes.{Appends}
use Rattle.calls.specs.Lines.{written}
use Rattle.calls.proofs.run.Given as goal

abbrev pub invariant-loop-rest : goal.invariant-loop-rest
invariant-loop-rest g l =
    (new : Option (List ℕ))
    → IfSome (written (g.C.Calls.outcome l.calls l.notation) l.rest) (Appends (g.W.Write.contents l.out) new)
    → IfSome (written (g.C.Calls.outcome l.calls l.notation) l.list) (Appends (g.W.Write.contents l.fn.out) new)

abbrev pub decreases-loop-rest : goal.decreases-loop-rest
decreases-loop-rest g l = length l.rest
