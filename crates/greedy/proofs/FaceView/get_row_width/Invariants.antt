use Rattle.std.proofs.Common.{◌≡◌, ℕ, ◌+◌, ◌*◌, ◌<◌, true}
use Rattle.greedy.specs.Walks.{joins_at}
use Rattle.greedy.proofs.FaceView.get_row_width.Given as goal

abbrev pub invariant-loop-width : goal.invariant-loop-width
invariant-loop-width l = (h : ℕ) → h < l.width → joins_at l.self.voxels.now l.self.visited.now l.self.strides.visibility_offset.0 l.quad_voxel (l.start.0 + h * l.self.strides.u_stride.0) ≡ true
