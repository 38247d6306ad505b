-- `face_needs_mesh` meets its contract: its tests are the rule's, by index.
use Rattle.greedy.proofs.Walks.{empty_not, visited_not, shows_needs}
use Rattle.greedy.proofs.FaceView.face_needs_mesh.Goals as goal

pub returns-then-class-eq-EMPTY : goal.returns-then-class-eq-EMPTY
returns-then-class-eq-EMPTY c = empty_not _ _ _ _ c.class.ensures c.if-class-eq-EMPTY.true

pub returns-then-self-i-ne0 : goal.returns-then-self-i-ne0
returns-then-self-i-ne0 c = visited_not _ _ _ _ c.if-self-i-ne0.true

pub returns : goal.returns
returns c = shows_needs _ _ _ _ _ c.if-self-i-ne0.false c.offset-adjacent.ensures c.shows_face.ensures
