-- `quad` meets its contract: its lines are those of its corners and of its triangles, at most 138 bytes.
use mathlib.Core.Path.{◌≡◌}
use Prim.Native.Nat.{◌+◌}
use native.Mathlib.Omega.{arith}
use lib.ListN.{length}
use Rattle.obj.specs.Text.{quad_text}
use Rattle.obj.specs.Writer.{on}
use Rattle.obj.proofs.Measured.{quad_long, triangles_long_lem}
use Rattle.obj.proofs.Lengths.{quad_at_most}
use Rattle.obj.proofs.measure.quad.Goals as goal
use Rattle.obj.proofs.measure.quad.Goals.{After-triangles}

long : (c : After-triangles)
    → c.corners.result + c.triangles.result ≡ length (quad_text c.args.quad.number (on c.args.quad.face c.args.quad.quad))
long c =
    let q = c.args.quad in
    rw (quad_long q.number (on q.face q.quad), triangles_long_lem q.number (on q.face q.quad), c.corners.ensures, c.triangles.ensures)

pub overflow_add-result : goal.overflow_add-result
overflow_add-result c = let q = c.args.quad in record { fits = omega (arith, long (goal.at.overflow_add-result c).After-triangles, quad_at_most q.number (on q.face q.quad) q.drawable.within q.few) }

pub returns : goal.returns
returns c = long (goal.at.returns c).After-triangles
