-- `OrientedBlockFace::flips_u` meets its contract: of a proper sign, one that is not negative is positive.
use mathlib.Core.Path.{sym}
use Rattle.geometry.proofs.Faces.{axis_same, flips_negative, flips_positive}
use Rattle.geometry.proofs.Signs.{negative_bits}
use Rattle.geometry.proofs.face.OrientedBlockFace.flips_u.Goals as goal

pub returns-then-self-lt0 : goal.returns-then-self-lt0
returns-then-self-lt0 c =
    let a = c.args in
    let s = negative_bits a.self.n_sign c.struct_told-1.given.0.1 c.if-self-lt0.true in
    rw (c.ne.ensures, axis_same, c.axes-axes.ensures) (sym (flips_negative a.self a.u_flip_face c.requires s))

pub returns : goal.returns
returns c =
    let a = c.args in
    let s = negative_bits a.self.n_sign c.struct_told-1.given.0.1 c.if-self-lt0.false in
    rw (c.eq.ensures, axis_same, c.axes-axes.ensures) (sym (flips_positive a.self a.u_flip_face c.requires s))
