use Rattle.std.proofs.Common.{◌-◌, ℕ, List}
use Rattle.voxels.proofs.Loops.{Underway}
use Rattle.greedy.specs.Spans.{spot}
use Rattle.greedy.specs.Scans.{Scanned, scanned_at, voxel_tests}
use Rattle.greedy.proofs.Scanning.{Scanning}
use Rattle.greedy.proofs.Mesher.scan_row.Given as goal

abbrev pub invariant-loop-k : goal.invariant-loop-k
invariant-loop-k l =
    Underway l.span.stride.0 l.initial.index l.span.count l.k l.index
    × Scanning (λ (voxels : List ℕ) (s : Scanned) (x j : ℕ). scanned_at voxels l.scan s (spot l.n l.slice l.row x) j) voxel_tests l.span.stride.0 l.span.start l.initial.index l.initial.self l.self l.k

abbrev pub decreases-loop-k : goal.decreases-loop-k
decreases-loop-k l = l.span.count - l.k
