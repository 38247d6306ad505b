-- `check_faces` meets its contract: the faces that are left decide as all do.
use Rattle.std.proofs.Common.{sym, refl, arith}
use Rattle.voxels.proofs.Asked.{face_on, face_stops, face_done}
use Rattle.voxels.proofs.bounds.check_faces.Goals as goal

pub loop-k-init : goal.loop-k-init
loop-k-init c = (c.well_formed.0.1.0.1, refl)

pub returns-in-Err : goal.returns-in-Err
returns-in-Err c = rw c.at.ensures (face_stops _ _ _ c.loop-k.invariant.1 (omega arith) (sym c.in-Err.ensures))

pub loop-k-preserved : goal.loop-k-preserved
loop-k-preserved c = (c.loop-k.invariant.0, face_on _ _ _ c.loop-k.invariant.1 (omega arith) (sym c.in_default.ensures))

pub returns : goal.returns
returns c = face_done _ _ c.loop-k.invariant.1 (omega arith)
