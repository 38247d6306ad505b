-- `OrientedBlockFace::counter_clockwise` meets its contract: both signs are 1 or -1, so their product fits, and its bits are its own.
use mir.Facts.{to_z-of_z}
use Rattle.geometry.proofs.Axes.{permutation_proper}
use Rattle.geometry.proofs.Signs.{proper_fits, signs_fit}
use Rattle.geometry.proofs.face.OrientedBlockFace.counter_clockwise.Goals as goal

pub overflow_mul-result : goal.overflow_mul-result
overflow_mul-result c =
    let f = c.args.self in
    let p = c.requires in
    let t = permutation_proper f.permutation in
    rw (to_z-of_z (proper_fits _ p), c.sign.ensures, to_z-of_z (proper_fits _ t)) (signs_fit _ _ p t)

pub returns : goal.returns
returns c =
    let f = c.args.self in
    let p = c.requires in
    let t = permutation_proper f.permutation in
    rw (to_z-of_z (proper_fits _ p), c.sign.ensures, to_z-of_z (proper_fits _ t), to_z-of_z (signs_fit _ _ p t))
