-- `kernel_stride` meets its contract.
use mathlib.Core.Path.{◌∙◌, ap}
use Prim.Native.Nat.{◌%◌}
use Rattle.geometry.specs.declared.axis.Axes.{Axes}
use Rattle.geometry.specs.Axes.{positive}
use Rattle.voxels.specs.Shape.{stride}
use Rattle.voxels.specs.Visible.{modulus, visibility_offset}
use Rattle.simple.specs.Kernel.{kernel_stride}
use Rattle.simple.proofs.kernel_stride.Goals as goal

pub returns : goal.returns
unfolding kernel_stride
returns c =
    let a = c.args in
    c.visibility_offset.ensures
    ∙ ap (visibility_offset (positive a.face.n_sign)) (c.new-n_stride.ensures ∙ ap (λ (x : Axes). stride a.voxels_shape x.n % modulus) c.axes-axes.ensures)
