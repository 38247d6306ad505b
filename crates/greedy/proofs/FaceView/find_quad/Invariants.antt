use Rattle.greedy.specs.Walks.{row_at}
use Rattle.greedy.proofs.Walks.{Rows}
use Rattle.greedy.proofs.FaceView.find_quad.Given as goal

abbrev pub invariant-loop-height : goal.invariant-loop-height
invariant-loop-height l =
    Rows (row_at l.self.voxels.now l.self.visited.now l.self.strides.visibility_offset.0 l.quad_voxel l.self.strides.u_stride.0 l.width) l.width l.self.strides.v_stride.0 l.min_index.0 l.max_height l.initial.tests l.height l.tests
