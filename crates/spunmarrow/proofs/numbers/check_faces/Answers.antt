-- `check_faces` meets its contract: the faces that are left decide as all do.
use mathlib.Core.Path.{refl, ap}
use native.Mathlib.Omega.{arith}
use Rattle.geometry.specs.Answers.{meaning}
use Rattle.voxels.proofs.Asked.{ask_done}
use Rattle.spunmarrow.specs.Faces.{bad_number, bad_numbers}
use Rattle.spunmarrow.proofs.Six.{face_on, face_stops}
use Rattle.spunmarrow.proofs.numbers.check_faces.Goals as goal

pub loop-k-init : goal.loop-k-init
unfolding bad_numbers
loop-k-init c = refl

pub returns-in-Err : goal.returns-in-Err
returns-in-Err c = rw c.at.ensures (face_stops c.args.numbers.now _ c.permutation-arg-1.given c.permutation.ensures c.loop-k.invariant (omega arith) (ap meaning c.in-Err.is))

pub loop-k-preserved : goal.loop-k-preserved
loop-k-preserved c = face_on c.args.numbers.now _ c.permutation-arg-1.given c.permutation.ensures c.loop-k.invariant (omega arith) (ap meaning c.in_default.is)

pub returns : goal.returns
returns c = ask_done 1 (bad_number c.args.numbers.now) _ _ 6 c.loop-k.invariant (omega arith)
