-- `PlacedQuad::corner` meets its contract. A step along u starts at the minimum's u, and one along v at its v, also after one along u: so both end within the largest axis, and fit.
use native.Mathlib.Omega.{arith}
use Rattle.geometry.specs.Corners.{corner}
use Rattle.geometry.proofs.Corners.{base_u, base_v, v_by_u}
use Rattle.geometry.proofs.placed.PlacedQuad.corner.Goals as goal

pub step-requires : goal.step-requires
step-requires c =
    let a = c.args in
    rw (c.axes-axes.ensures, c.base-minu_minv.ensures, base_u a.self.face a.self.quad) (omega arith)

pub step-requires-in-MinuMaxv : goal.step-requires-in-MinuMaxv
step-requires-in-MinuMaxv c =
    let a = c.args in
    rw (c.axes-axes.ensures, c.base-minu_minv.ensures, base_v a.self.face a.self.quad) (omega arith)

pub step-requires-in-MaxuMaxv : goal.step-requires-in-MaxuMaxv
step-requires-in-MaxuMaxv c =
    let a = c.args in
    rw (c.axes-axes.ensures, c.base-minu_minv.ensures, base_u a.self.face a.self.quad) (omega arith)

pub step-requires-in-MaxuMaxv-2 : goal.step-requires-in-MaxuMaxv-2
step-requires-in-MaxuMaxv-2 c =
    let a = c.args in
    rw (c.step-in-MaxuMaxv.ensures, c.axes-axes.ensures, c.base-minu_minv.ensures, v_by_u a.self.face a.self.quad, base_v a.self.face a.self.quad) (omega arith)

pub returns-in-MinuMinv : goal.returns-in-MinuMinv
unfolding corner
returns-in-MinuMinv c = simp (c.in-MinuMinv.is, c.base-minu_minv.ensures)

pub returns-in-MaxuMinv : goal.returns-in-MaxuMinv
unfolding corner
returns-in-MaxuMinv c = simp (c.step.ensures, c.in-MaxuMinv.is, c.base-minu_minv.ensures, c.axes-axes.ensures)

pub returns-in-MinuMaxv : goal.returns-in-MinuMaxv
unfolding corner
returns-in-MinuMaxv c = simp (c.step-in-MinuMaxv.ensures, c.in-MinuMaxv.is, c.base-minu_minv.ensures, c.axes-axes.ensures)

pub returns-in-MaxuMaxv : goal.returns-in-MaxuMaxv
unfolding corner
returns-in-MaxuMaxv c = simp (c.step-in-MaxuMaxv-2.ensures, c.step-in-MaxuMaxv.ensures, c.in-MaxuMaxv.is, c.base-minu_minv.ensures, c.axes-axes.ensures)
