-- `show::numbers` has written the first numbers: whatever is written of the others comes behind them.
use Rattle.std.proofs.Common.{ℕ, ◌∷◌, List, Option, drop, flat_map}
use Rattle.std.specs.Fmt.{decimal}
use Rattle.std.specs.Io.KnownBytes.{Appends}
use Rattle.calls.specs.Show as shown
use Rattle.calls.proofs.show.numbers.Given as goal

abbrev pub invariant-loop-n : goal.invariant-loop-n
invariant-loop-n g l =
    (new : Option (List ℕ))
    → Appends (g.W.Write.contents l.out) new (flat_map (λ m. 44 ∷ decimal m) (drop l.n-index l.others))
    → Appends (g.W.Write.contents l.fn.out) new (shown.numbers l.numbers)
