-- `group` meets its contract: what is measured, and what is left, are all of it.
use Rattle.std.proofs.Common.{rules}
use mathlib.Core.Path.{◌≡◌, ◌∙◌, ap}
use Prim.Native.Nat.{◌+◌, ◌*◌, ◌-◌, ◌≤◌}
use native.Mathlib.Omega.{arith}
use lib.ListN.{length}
use Rattle.greedy.specs.Greedy.{quad_numbers}
use Rattle.obj.specs.Writer.{group_text}
use Rattle.obj.proofs.Going.{measured, quad_at, quad_read, group_at_most, ready_drawable, ready_held, ready_on, text_next, text_done}
use Rattle.obj.proofs.measure.group.Goals as goal
use Rattle.obj.proofs.measure.group.Goals.{After-quad-length, After-quad_from}

-- The quad at hand is the list's.
read : (c : After-quad_from) → c.quad_from.result ≡ quad_at c.args.group.now.quads.now (c.loop-k.k * quad_numbers)
read c = c.quad_from.ensures ∙ quad_read c.args.group.now.quads.now (c.loop-k.k * quad_numbers)

-- So what is left measures as much as that quad and those after it.
next : (c : After-quad-length)
    → let g = c.args.group.now in
    let k = c.loop-k.k in
    let end = g.first + g.count in
    length (group_text g.quads.now g.face k (end - k)) ≡ c.quad-length.result + length (group_text g.quads.now g.face (k + 1) (end - (k + 1)))
next c =
    let g = c.args.group.now in
    measured _ _ (text_next g.quads.now g.face c.loop-k.k (g.first + g.count) c.loop-k-test.true (read (goal.at.After-quad-length c).After-quad_from)) c.quad-length.ensures

pub slice_bounds-quad_from-end : goal.slice_bounds-quad_from-end
slice_bounds-quad_from-end c = let h : c.loop-k.k * quad_numbers + quad_numbers ≤ length c.args.group.now.quads.now = ready_held c.loop-k.invariant.0 c.loop-k-test.true in search rules

pub invariant_of-quad-clause-drawable : goal.invariant_of-quad-clause-drawable
invariant_of-quad-clause-drawable c = ready_drawable c.loop-k.invariant.0 c.loop-k-test.true (read (goal.at.invariant_of-quad-clause-drawable c).After-quad_from)

pub overflow_add-length : goal.overflow_add-length
overflow_add-length c = record { fits = omega (arith, next c, c.loop-k.invariant.1, group_at_most c.args.group.now.ready, c.args.group.now.ready.few) }

pub loop-k-preserved : goal.loop-k-preserved
loop-k-preserved c = (ready_on c.loop-k.invariant.0 c.loop-k-test.true, omega (arith, next c, c.loop-k.invariant.1))

pub returns : goal.returns
returns c =
    let g = c.args.group.now in
    omega (arith, c.loop-k.invariant.1, ap length (text_done g.quads.now g.face c.loop-k.k (g.first + g.count) c.loop-k-test.false))
