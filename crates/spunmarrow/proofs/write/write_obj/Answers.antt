-- `write_obj` meets its contract: the check of the faces decides, or the writer.
use Rattle.geometry.specs.Answers.{meaning}
use Rattle.geometry.proofs.Answers.{handed_on}
use Rattle.spunmarrow.proofs.Left.{obj_refused, obj_made}
use Rattle.spunmarrow.proofs.Nine.{counts_are}
use Rattle.spunmarrow.proofs.write.write_obj.Goals as goal

pub returns-in_err-check_faces : goal.returns-in_err-check_faces
returns-in_err-check_faces c = rw (handed_on c.from_residual.result c.in_err-check_faces.field-0.0 c.from_residual.ensures.1) (obj_refused _ _ _ _ c.in_err-check_faces.ensures)

pub returns : goal.returns
returns c = obj_made _ _ _ _ (meaning c.write_obj.result) c.in_ok-check_faces.ensures c.faces.ensures (counts_are _ c.told-counts) c.write_obj.ensures
