use Rattle.std.proofs.Common.{◌≡◌, length, drop}
use Rattle.geometry.specs.Refusal.{checked}
use Rattle.voxels.specs.Checks.{bad_faces_from, bad_faces}
use Rattle.voxels.proofs.bounds.check_faces.Given as goal

abbrev pub invariant-loop-k : goal.invariant-loop-k
invariant-loop-k l = (length l.fn.faces ≡ 6) × (checked (bad_faces_from l.k (drop l.k l.fn.faces)) ≡ checked (bad_faces l.fn.faces))
