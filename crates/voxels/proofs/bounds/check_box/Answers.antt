-- `check_box` meets its contract: the rows of the box, by their indices, are its points in scan order.
use Rattle.std.proofs.Common.{sym, ap, ◌∙◌}
use Rattle.geometry.specs.Point.{along}
use Rattle.geometry.specs.Refusal.{checked}
use Rattle.geometry.specs.declared.axis.Axis.TheVariants.{X, Y, Z}
use Rattle.voxels.proofs.Held.{max_small, min_index, stride_is, slices_lent, box_flat}
use Rattle.voxels.proofs.bounds.check_box.Goals as goal

pub span-wide-requires : goal.span-wide-requires
unfolding along
span-wide-requires c = let s = c.args in let h = c.requires in (h.spans X, max_small s.voxels_shape _ s.min s.max h X)

pub span-high-requires : goal.span-high-requires
unfolding along
span-high-requires c = let s = c.args in let h = c.requires in (h.spans Y, max_small s.voxels_shape _ s.min s.max h Y)

pub span-deep-requires : goal.span-deep-requires
unfolding along
span-deep-requires c = let s = c.args in let h = c.requires in (h.spans Z, max_small s.voxels_shape _ s.min s.max h Z)

pub check_slices-requires : goal.check_slices-requires
check_slices-requires c =
    let s = c.args in
    let h = c.requires in
    let i = min_index s.voxels_shape _ s.min s.max h c.linearize-start.ensures in
    let d = stride_is s.voxels_shape _ s.min s.max h Y c.new-y_stride.ensures in
    let e = stride_is s.voxels_shape _ s.min s.max h Z c.new-z_stride.ensures in
    rw (c.span-wide.ensures, c.span-high.ensures, c.span-deep.ensures, i, d, e) (slices_lent s.voxels_shape _ s.min s.max h)

pub returns : goal.returns
returns c =
    let s = c.args in
    let h = c.requires in
    let i = min_index s.voxels_shape _ s.min s.max h c.linearize-start.ensures in
    let d = stride_is s.voxels_shape _ s.min s.max h Y c.new-y_stride.ensures in
    let e = stride_is s.voxels_shape _ s.min s.max h Z c.new-z_stride.ensures in
    c.check_slices.ensures ∙ rw (c.span-wide.ensures, c.span-high.ensures, c.span-deep.ensures, i, d, e) (ap checked (sym (box_flat s.voxels_shape _ s.min s.max h _)))
