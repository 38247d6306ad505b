-- `unit` meets its contract: the check of the faces decides, or unit meshing.
use Rattle.geometry.specs.Refusal.{accepted}
use Rattle.geometry.proofs.Answers.{refusal_of, handed_on}
use Rattle.spunmarrow.proofs.Left.{unit_refused, unit_made}
use Rattle.spunmarrow.proofs.mesh.unit.Goals as goal

pub returns-in_err-check_faces : goal.returns-in_err-check_faces
returns-in_err-check_faces c = rw (handed_on c.from_residual.result c.in_err-check_faces.field-0.0 c.from_residual.ensures.1) (unit_refused _ _ _ _ _ _ c.in_err-check_faces.ensures)

pub returns-in_err-counts : goal.returns-in_err-counts
returns-in_err-counts c =
    rw (handed_on c.from_residual-in_err-counts.result c.in_err-counts.field-0.0 c.from_residual-in_err-counts.ensures.1)
    (unit_made _ _ _ _ _ _ (refusal_of c.in_err-counts.field-0.0) c.in_ok-check_faces.ensures
    c.point.ensures c.point-2.ensures c.point-3.ensures c.faces.ensures c.in_err-counts.ensures)

pub returns : goal.returns
returns c =
    unit_made _ _ _ _ _ _ (accepted c.in_ok-counts.counts) c.in_ok-check_faces.ensures
    c.point.ensures c.point-2.ensures c.point-3.ensures c.faces.ensures c.in_ok-counts.ensures
