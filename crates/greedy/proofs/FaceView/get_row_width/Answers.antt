-- `get_row_width` meets its contract: the voxels so far join the row, and the walk ends behind them.
use Rattle.std.proofs.Common.{below_more, ◌∙◌}
use Rattle.greedy.specs.Walks.{row_at}
use Rattle.greedy.proofs.Walks.{walk_stops, walk_done, unneeded_not, joins_by}
use Rattle.greedy.proofs.FaceView.get_row_width.Goals as goal

pub returns-then-not-face_needs_mesh : goal.returns-then-not-face_needs_mesh
unfolding row_at
returns-then-not-face_needs_mesh c = walk_stops _ _ _ _ _ c.loop-width-test.true c.loop-width.invariant (unneeded_not _ _ _ _ _ c.face_needs_mesh.ensures c.if-not-face_needs_mesh.true)

pub returns-then-not-uniform : goal.returns-then-not-uniform
unfolding row_at
returns-then-not-uniform c =
    walk_stops _ _ _ _ _ c.loop-width-test.true c.loop-width.invariant (joins_by _ _ _ _ _ c.face_needs_mesh.ensures c.if-not-face_needs_mesh.false c.uniform.ensures ∙ c.if-not-uniform.true)

pub loop-width-preserved : goal.loop-width-preserved
loop-width-preserved c = below_more _ _ c.loop-width.invariant (joins_by _ _ _ _ _ c.face_needs_mesh.ensures c.if-not-face_needs_mesh.false c.uniform.ensures ∙ c.if-not-uniform.false)

pub returns : goal.returns
unfolding row_at
returns c = walk_done _ _ _ _ _ c.loop-width-test.false c.loop-width.invariant
