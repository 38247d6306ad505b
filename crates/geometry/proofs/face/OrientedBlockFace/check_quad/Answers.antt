-- `OrientedBlockFace::check_quad` meets its contract: the quad's limits go by the face's own axes.
use mathlib.Core.List.{[]}
use mathlib.Core.Path.{sym, ap}
use mathlib.Core.Bool.{not}
use Rattle.geometry.specs.Checks.{bad_quad}
use Rattle.geometry.proofs.Refusals.{applies, passes_alone}
use Rattle.geometry.proofs.face.OrientedBlockFace.check_quad.Goals as goal

pub returns-then-not-within_limits : goal.returns-then-not-within_limits
returns-then-not-within_limits c =
    let a = c.args in
    rw c.at.ensures (sym (applies (bad_quad a.self a.quad) [] _ (sym (ap not (rw c.axes.ensures at c.if-not-within_limits.ensures)))))

pub returns : goal.returns
returns c =
    let a = c.args in
    sym (passes_alone (bad_quad a.self a.quad) (sym (ap not (rw c.axes.ensures at c.if-not-within_limits.ensures))))
