-- `corners` meets its contract: the first and the last corner tell how long all four lines are.
use mathlib.Core.Path.{sym, ◌∙◌, ap}
use Prim.Native.Nat.{◌+◌, ◌*◌}
use Rattle.std.specs.Result.{is_ok}
use Rattle.geometry.specs.Corners.{QuadCorners}
use Rattle.obj.specs.Writer.{point_places}
use Rattle.obj.proofs.Given.{one_value, corners_given}
use Rattle.obj.proofs.Measured.{corners_long}
use Rattle.obj.proofs.measure.corners.Goals as goal

pub unwrap-corners-requires : goal.unwrap-corners-requires
unwrap-corners-requires c = ap is_ok (corners_given c.args.quad c.quad_corners.ensures)

pub returns : goal.returns
returns c =
    let q = c.args.quad in
    let is = one_value c.unwrap-corners.ensures (corners_given q c.quad_corners.ensures) in
    rw (c.places-first.ensures.value, c.places-last.ensures.value) (ap (λ (m : QuadCorners). 20 + 2 * (point_places m.minu_minv + point_places m.maxu_maxv)) is ∙ sym (corners_long q.face q.quad))
