use Rattle.std.proofs.Common.{◌≡◌, ℕ, ◌+◌, ◌*◌, ◌<◌, false}
use Rattle.voxels.proofs.Loops.{Underway}
use Rattle.greedy.specs.Walks.{needs_at}
use Rattle.greedy.proofs.FaceView.idle.Given as goal

abbrev pub invariant-loop-k : goal.invariant-loop-k
invariant-loop-k l =
    Underway l.delta.0 l.initial.index l.most l.k l.index
    × ((h : ℕ) → h < l.k → needs_at l.self.voxels.now l.self.visited.now l.self.strides.visibility_offset.0 (l.initial.index + h * l.delta.0) ≡ false)
