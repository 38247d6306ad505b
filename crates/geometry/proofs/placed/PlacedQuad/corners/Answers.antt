-- `PlacedQuad::corners` meets its contract. A step along u starts at the minimum's u, and one along v at its v, also after one along u: so all end within the largest axis, and fit.
use native.Mathlib.Omega.{arith}
use Rattle.geometry.specs.Corners.{corner}
use Rattle.geometry.proofs.Corners.{base_u, base_v, v_by_u}
use Rattle.geometry.proofs.placed.PlacedQuad.corners.Goals as goal

pub step-maxu_minv-requires : goal.step-maxu_minv-requires
step-maxu_minv-requires c =
    let a = c.args in
    rw (c.axes-axes.ensures, c.base-minu_minv.ensures, base_u a.self.face a.self.quad) (omega arith)

pub step-minu_maxv-requires : goal.step-minu_maxv-requires
step-minu_maxv-requires c =
    let a = c.args in
    rw (c.axes-axes.ensures, c.base-minu_minv.ensures, base_v a.self.face a.self.quad) (omega arith)

pub step-maxu_maxv-requires : goal.step-maxu_maxv-requires
step-maxu_maxv-requires c =
    let a = c.args in
    rw (c.step-maxu_minv.ensures, c.axes-axes.ensures, c.base-minu_minv.ensures, v_by_u a.self.face a.self.quad, base_v a.self.face a.self.quad) (omega arith)

pub returns : goal.returns
unfolding corner
returns c = simp (c.step-maxu_maxv.ensures, c.step-minu_maxv.ensures, c.step-maxu_minv.ensures, c.base-minu_minv.ensures, c.axes-axes.ensures)
