-- `mesh_faces` meets its contract: face after face is meshed.
use Rattle.std.proofs.Common.{arith, refl, rules}
use Rattle.greedy.proofs.Six.{six_start, six_more, six_on, six_done, faces_left}
use Rattle.greedy.proofs.mesh_faces.Goals as goal

pub loop-k-init : goal.loop-k-init
loop-k-init c = six_start (search rules) refl refl

pub overflow_sub-counts : goal.overflow_sub-counts
overflow_sub-counts c = let more = six_more c.loop-k.invariant c.greedy_quads_for_face.new.self c.greedy_quads_for_face.ensures.meshed in omega arith

pub loop-k-preserved : goal.loop-k-preserved
loop-k-preserved c = six_on c.loop-k.invariant _ c.greedy_quads_for_face.ensures.meshed c.loop-k-test.true c.greedy_quads_for_face.ensures.same_call

pub returns : goal.returns
returns c =
    let same = c.loop-k.invariant.same in
    faces_left (six_done c.loop-k.invariant c.loop-k-test.false) (search rules) (search rules)
