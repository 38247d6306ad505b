use mathlib.Core.Path.{◌≡◌}
use Prim.Native.Nat.{ℕ, ◌*◌, ◌≤◌, ◌<◌}
use lib.ListN.{length, get_or}
use Rattle.simple.specs.Ready.{most_listed}
use Rattle.simple.specs.Kernel.{start_of}
use Rattle.simple.proofs.run_starts.Given as goal

abbrev pub invariant-loop-f : goal.invariant-loop-f
invariant-loop-f l = (length l.cursors ≡ 6) × (l.n ≡ start_of l.counts l.f) × (l.n ≤ l.f * most_listed) × ((g : ℕ) → g < l.f → get_or l.cursors g 0 ≡ start_of l.counts g)
