-- `add_product` meets its contract: the sum fits 64 bits.
use Rattle.std.proofs.Common.{rules}
use Rattle.voxels.proofs.Numbers.{wide_product, product_fits}
use Rattle.voxels.proofs.index.add_product.Goals as goal

pub overflow_mul-sum : goal.overflow_mul-sum
overflow_mul-sum c = let a = c.args in record { fits = product_fits a.b a.c (search rules) (search rules) }

pub overflow_add-sum : goal.overflow_add-sum
overflow_add-sum c = let a = c.args in record { fits = wide_product a.b a.c a.a (search rules) (search rules) (search rules) }
