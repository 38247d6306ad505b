-- `sight` meets its contract: a class of 16 bits is at most 3, so that where it begins fits.
use Rattle.std.proofs.Common.{rules}
use Rattle.std.proofs.Common.{ℕ, ◌*◌, ap, arith}
use Rattle.voxels.specs.Voxel.{merge_values}
use Rattle.voxels.proofs.Voxels.{class_small}
use Rattle.voxels.proofs.voxel.sight.Goals as goal

pub overflow_mul-result : goal.overflow_mul-result
overflow_mul-result c = record { fits = omega (arith, class_small c.args.voxel c.class.ensures (search rules)) }

pub returns : goal.returns
returns c = ap (λ (k : ℕ). k * merge_values) c.class.ensures
