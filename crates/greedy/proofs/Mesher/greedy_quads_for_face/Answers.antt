-- `greedy_quads_for_face` meets its contract: what the scan makes of cleared marks is the face's group.
use Rattle.std.proofs.Common.{arith, refl}
use Rattle.greedy.proofs.Faces.{scan_ready, scan_few, scan_made}
use Rattle.greedy.proofs.Mesher.greedy_quads_for_face.Goals as goal

pub scan_slices-requires-clause-room_for : goal.scan_slices-requires-clause-room_for
scan_slices-requires-clause-room_for c =
    let a = c.args in
    let b = a.self.now.block in
    let h = c.requires in
    let few = scan_few _ _ b.voxels_shape b.interior h.accepted a.face _ c.new-scan.ensures _ c.linearize-start.ensures in
    (h.room_for.0, omega (arith, h.room_for.1))

pub scan_slices-requires-clause-slices_scan : goal.scan_slices-requires-clause-slices_scan
scan_slices-requires-clause-slices_scan c =
    let a = c.args in
    let b = a.self.now.block in
    let h = c.requires in
    rw c.clear.auto.visited (scan_ready _ _ b.voxels_shape b.interior h.accepted a.face _ c.new-scan.ensures _ c.linearize-start.ensures)

pub returns-clause-meshed : goal.returns-clause-meshed
returns-clause-meshed c =
    let a = c.args in
    let b = a.self.now.block in
    let h = c.requires in
    scan_made _ _ b.voxels_shape b.interior h.accepted a.face _ c.new-scan.ensures _ c.linearize-start.ensures _ _ refl _ b.sized _ c.clear.ensures c.scan_slices.ensures.scanned
