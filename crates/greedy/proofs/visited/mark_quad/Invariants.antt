use Rattle.std.proofs.Common.{◌≡◌}
use Rattle.greedy.specs.Marks.{mark_quad_at}
use Rattle.greedy.proofs.visited.mark_quad.Given as goal

abbrev pub invariant-loop-k : goal.invariant-loop-k
invariant-loop-k l = l.visited ≡ mark_quad_at l.strides.u_stride.0 l.quad.width l.strides.v_stride.0 l.k l.initial.visited l.min_index.0
