-- `greedy` meets its contract: the check of the faces decides, or greedy meshing.
use Rattle.geometry.specs.Answers.{meaning}
use Rattle.geometry.proofs.Answers.{handed_on}
use Rattle.spunmarrow.proofs.Left.{greedy_refused, greedy_made}
use Rattle.spunmarrow.proofs.mesh.greedy.Goals as goal

pub returns-in_err-check_faces : goal.returns-in_err-check_faces
returns-in_err-check_faces c = rw (handed_on c.from_residual.result c.in_err-check_faces.field-0.0 c.from_residual.ensures.1) (greedy_refused _ _ _ _ _ _ _ c.in_err-check_faces.ensures)

pub returns : goal.returns
returns c =
    greedy_made _ _ _ _ _ _ _ (meaning c.greedy_quads.result) c.in_ok-check_faces.ensures
    c.point.ensures c.point-2.ensures c.point-3.ensures c.faces.ensures c.greedy_quads.ensures
