-- `Slices::new` meets its contract: no axis runs backwards, and the strides do not wrap.
use Rattle.geometry.specs.declared.axis.Axis.TheVariants.{X, Y, Z}
use Rattle.geometry.specs.Point.{along}
use Rattle.voxels.proofs.Entered.{below, entered_stride}
use Rattle.simple.proofs.rows.Slices.new.Goals as goal

pub overflow_sub-wide : goal.overflow_sub-wide
unfolding along
overflow_sub-wide c = below _ _ _ c.requires.entered X

pub overflow_sub-high : goal.overflow_sub-high
unfolding along
overflow_sub-high c = below _ _ _ c.requires.entered Y

pub overflow_sub-deep : goal.overflow_sub-deep
unfolding along
overflow_sub-deep c = below _ _ _ c.requires.entered Z

pub returns : goal.returns
returns c =
    let inside = c.requires.entered in
    rw (entered_stride _ _ _ inside Y c.new-y_stride.ensures, entered_stride _ _ _ inside Z c.new-z_stride.ensures)
