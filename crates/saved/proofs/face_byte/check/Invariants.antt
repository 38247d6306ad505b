use Rattle.std.proofs.Common.{◌≡◌, drop}
use Rattle.geometry.specs.Refusal.{checked}
use Rattle.saved.specs.Read.{bad_face_bytes_from, bad_face_bytes}
use Rattle.saved.proofs.Codes.{six}
use Rattle.saved.proofs.face_byte.check.Given as goal

abbrev pub invariant-loop-k : goal.invariant-loop-k
invariant-loop-k l = checked (bad_face_bytes_from l.k (drop l.k (six l.bytes))) ≡ checked (bad_face_bytes (six l.bytes))
