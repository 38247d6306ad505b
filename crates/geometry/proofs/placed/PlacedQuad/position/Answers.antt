-- `PlacedQuad::position` meets its contract: no coordinate of a corner is past the largest axis, and so each is an f32 exactly.
use Rattle.geometry.specs.Point.{along}
use Rattle.geometry.specs.declared.axis.Axis.TheVariants.{X, Y, Z}
use Rattle.geometry.proofs.Corners.{corner_at_most}
use Rattle.geometry.proofs.Floats.{coordinate_exact}
use Rattle.geometry.proofs.placed.PlacedQuad.position.Goals as goal

pub int_to_float-x : goal.int_to_float-x
unfolding along
int_to_float-x c =
    let a = c.args in
    rw c.corner-c.ensures (coordinate_exact _ (corner_at_most a.self.face a.self.quad c.args.self.within a.which X))

pub int_to_float-y : goal.int_to_float-y
unfolding along
int_to_float-y c =
    let a = c.args in
    rw c.corner-c.ensures (coordinate_exact _ (corner_at_most a.self.face a.self.quad c.args.self.within a.which Y))

pub int_to_float-z : goal.int_to_float-z
unfolding along
int_to_float-z c =
    let a = c.args in
    rw c.corner-c.ensures (coordinate_exact _ (corner_at_most a.self.face a.self.quad c.args.self.within a.which Z))

pub returns : goal.returns
returns c = simp c.corner-c.ensures
