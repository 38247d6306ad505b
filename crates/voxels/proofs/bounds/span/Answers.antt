-- `span` meets its contract: the sum is at most max.
use Rattle.std.proofs.Common.{arith}
use Rattle.voxels.proofs.bounds.span.Goals as goal

pub overflow_add-result : goal.overflow_add-result
overflow_add-result c = record { fits = omega (arith, c.requires) }
