-- `entered` meets its contract: of a held box nothing overflows.
use Rattle.std.proofs.Common.{refl, arith}
use Rattle.geometry.specs.Point.{along}
use Rattle.geometry.specs.declared.axis.Axis.TheVariants.{X, Y, Z}
use Rattle.voxels.specs.Shape.{size}
use Rattle.voxels.proofs.Held.{axis_small, slice_small}
use Rattle.voxels.proofs.bounds.entered.Goals as goal

pub overflow_mul-xy : goal.overflow_mul-xy
overflow_mul-xy c = let s = c.args in record { fits = omega (arith, slice_small s.voxels_shape _ s.min s.max c.requires) }

pub overflow_mul-size : goal.overflow_mul-size
unfolding size
overflow_mul-size c = record { fits = omega (arith, c.requires.small) }

pub overflow_add-x : goal.overflow_add-x
unfolding along
overflow_add-x c = let s = c.args in let h = c.requires in record { fits = omega (arith, h.spans X, h.within X, axis_small s.voxels_shape _ s.min s.max h X) }

pub overflow_add-y : goal.overflow_add-y
unfolding along
overflow_add-y c = let s = c.args in let h = c.requires in record { fits = omega (arith, h.spans Y, h.within Y, axis_small s.voxels_shape _ s.min s.max h Y) }

pub overflow_add-z : goal.overflow_add-z
unfolding along
overflow_add-z c = let s = c.args in let h = c.requires in record { fits = omega (arith, h.spans Z, h.within Z, axis_small s.voxels_shape _ s.min s.max h Z) }

pub returns : goal.returns
unfolding size
returns c = refl
