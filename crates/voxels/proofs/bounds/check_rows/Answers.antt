-- `check_rows` meets its contract: rows that touch are one row.
use Rattle.std.proofs.Common.{ap, ◌∙◌, arith}
use Rattle.geometry.specs.Refusal.{checked}
use Rattle.voxels.proofs.Rows.{touching, touching_lent, touching_few}
use Rattle.voxels.proofs.bounds.check_rows.Goals as goal

pub overflow_mul-wide : goal.overflow_mul-wide
overflow_mul-wide c = record { fits = omega (arith, touching_few _ _ c.if-wide-y_stride.true _ _ _ c.requires) }

pub check_row-requires : goal.check_row-requires
check_row-requires c = touching_lent _ _ c.if-wide-y_stride.true _ _ _ c.requires

pub returns-then-wide-y_stride : goal.returns-then-wide-y_stride
returns-then-wide-y_stride c = c.check_row.ensures ∙ ap checked (touching _ _ c.if-wide-y_stride.true _ _ _)
