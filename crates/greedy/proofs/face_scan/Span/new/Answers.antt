-- `Span::new` meets its contract.
use Rattle.voxels.proofs.Entered.{below}
use Rattle.greedy.proofs.Faces.{span_from}
use Rattle.greedy.proofs.face_scan.Span.new.Goals as goal

pub overflow_sub-result : goal.overflow_sub-result
overflow_sub-result c = let a = c.args in let h = c.requires in rw (c.coordinate-start.ensures, c.coordinate-end.ensures) (below h.lent a.voxels_shape a.interior h.entered a.axis)

pub returns : goal.returns
returns c = let h = c.requires in span_from h.lent _ _ h.entered _ _ _ _ c.coordinate-start.ensures c.coordinate-end.ensures c.new.ensures
