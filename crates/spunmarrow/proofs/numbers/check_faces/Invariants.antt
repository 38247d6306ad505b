use mathlib.Core.Path.{◌≡◌}
use Prim.Native.Nat.{◌-◌}
use Rattle.geometry.specs.Refusal.{checked}
use Rattle.voxels.specs.Loop.{every}
use Rattle.spunmarrow.specs.Faces.{bad_number, bad_numbers}
use Rattle.spunmarrow.proofs.numbers.check_faces.Given as goal

abbrev pub invariant-loop-k : goal.invariant-loop-k
invariant-loop-k l = checked (every 1 l.k (6 - l.k) (bad_number l.numbers)) ≡ checked (bad_numbers l.numbers)
