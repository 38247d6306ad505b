-- `side_end` meets its contract: a length up to the largest axis is an f32 exactly, and plus zero is that of 0.
use lib.Ieee.{of_bits, of_int}
use Rattle.geometry.proofs.Floats.{coordinate_exact}
use Rattle.geometry.proofs.face.side_end.Goals as goal

pub int_to_float-result : goal.int_to_float-result
int_to_float-result c = coordinate_exact _ c.requires

pub returns-then-far : goal.returns-then-far
returns-then-far c = rw c.if-far.true

pub returns-else-far : goal.returns-else-far
unfolding of_bits of_int
returns-else-far c = rw c.if-far.false
