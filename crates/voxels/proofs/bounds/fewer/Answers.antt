-- `fewer` meets its contract: a division that fits tells what the product would.
use Rattle.std.proofs.Common.{rules}
use Rattle.voxels.proofs.Numbers.{none_fewer, fewer_than_product, product_fits}
use Rattle.voxels.proofs.bounds.fewer.Goals as goal

pub returns-then-z-eq0 : goal.returns-then-z-eq0
returns-then-z-eq0 c = none_fewer _ _ _ c.if-z-eq0.true

pub overflow_mul-xy : goal.overflow_mul-xy
overflow_mul-xy c = let a = c.args in record { fits = product_fits a.x a.y (search rules) (search rules) }

pub returns : goal.returns
returns c = fewer_than_product _ _ _ c.if-z-eq0.false
