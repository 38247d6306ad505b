-- `FaceScan::new` meets its contract.
use mathlib.Core.Path.{ap, ◌∙◌}
use Rattle.greedy.specs.Spans.{span_of}
use Rattle.greedy.proofs.Faces.{scan_from}
use Rattle.greedy.proofs.face_scan.FaceScan.new.Goals as goal

pub returns : goal.returns
returns c =
    let h = c.requires in
    scan_from h.lent _ _ h.entered _ _ _ _ _ _ _ _ _ c.axes-axes.ensures c.new-n_stride.ensures c.new.ensures c.new-2.ensures c.visibility_offset.ensures
    c.new-3.ensures (c.new-4.ensures ∙ ap (span_of _ _) c.slower.ensures) (c.new-5.ensures ∙ ap (span_of _ _) c.faster.ensures)
