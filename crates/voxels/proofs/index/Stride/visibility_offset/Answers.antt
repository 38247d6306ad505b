-- `Stride::visibility_offset` meets its contract: on either side it is the offset of the rule.
use Rattle.std.proofs.Common.{rules}
use Rattle.geometry.proofs.Signs.{positive_bits}
use Rattle.voxels.proofs.Steps.{offset_up, offset_down}
use Rattle.voxels.proofs.index.Stride.visibility_offset.Goals as goal

pub returns-then-sign-gt0 : goal.returns-then-sign-gt0
returns-then-sign-gt0 c = let s = c.args.face.n_sign in offset_up s _ (positive_bits s c.struct_told-1.given.0.1 c.if-sign-gt0.true)

pub returns : goal.returns
returns c = let s = c.args.face.n_sign in offset_down s _ _ (positive_bits s c.struct_told-1.given.0.1 c.if-sign-gt0.false) (search rules) (search rules) c.wrapping_sub_u32.ensures.value
