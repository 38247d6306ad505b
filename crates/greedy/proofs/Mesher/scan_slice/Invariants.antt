use Rattle.std.proofs.Common.{ℕ, List}
use Rattle.greedy.specs.Scans.{row_along, row_tests}
use Rattle.greedy.proofs.Scanning.{Scanning}
use Rattle.greedy.proofs.Mesher.scan_slice.Given as goal

abbrev pub invariant-loop-k : goal.invariant-loop-k
invariant-loop-k l = Scanning (λ (voxels : List ℕ). row_along voxels l.scan l.slice) (row_tests l.scan) l.span.stride.0 l.span.start l.start.0 l.initial.self l.self l.k
