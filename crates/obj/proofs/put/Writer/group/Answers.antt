-- `group` meets its contract: what is left, written after what is written, is all of it.
use Rattle.std.proofs.Common.{rules}
use mathlib.Core.Path.{◌≡◌, ◌∙◌}
use Prim.Native.Nat.{◌+◌, ◌*◌, ◌-◌, ◌≤◌}
use native.Mathlib.Omega.{arith}
use lib.ListN.{length}
use Rattle.greedy.specs.Greedy.{quad_numbers}
use Rattle.obj.proofs.Going.{quad_at, quad_read, ready_drawable, ready_held, ready_on, text_next, text_done}
use Rattle.obj.proofs.Writer.{leads_start, leads_on, leads_done, leads_room, room_first, room_as}
use Rattle.obj.proofs.put.Writer.group.Goals as goal
use Rattle.obj.proofs.put.Writer.group.Goals.{After-quad_from}

-- The quad at hand is the list's.
read : (c : After-quad_from) → c.quad_from.result ≡ quad_at c.args.group.now.quads.now (c.loop-k.k * quad_numbers)
read c = c.quad_from.ensures ∙ quad_read c.args.group.now.quads.now (c.loop-k.k * quad_numbers)

pub loop-k-init : goal.loop-k-init
loop-k-init c =
    let g = c.args.group.now in
    let all : g.first + g.count - g.first ≡ g.count = omega arith in
    (rw all g.ready, leads_start (rw all))

pub slice_bounds-quad_from-end : goal.slice_bounds-quad_from-end
slice_bounds-quad_from-end c = let h : c.loop-k.k * quad_numbers + quad_numbers ≤ length c.args.group.now.quads.now = ready_held c.loop-k.invariant.0 c.loop-k-test.true in search rules

pub invariant_of-quad-clause-drawable : goal.invariant_of-quad-clause-drawable
invariant_of-quad-clause-drawable c = ready_drawable c.loop-k.invariant.0 c.loop-k-test.true (read (goal.at.invariant_of-quad-clause-drawable c).After-quad_from)

pub quad-requires : goal.quad-requires
quad-requires c = room_first _ (room_as (text_next _ _ _ _ c.loop-k-test.true (read (goal.at.quad-requires c).After-quad_from)) (leads_room c.loop-k.invariant.1 c.requires))

pub loop-k-preserved : goal.loop-k-preserved
loop-k-preserved c =
    let l = c.loop-k in
    (ready_on l.invariant.0 c.loop-k-test.true, leads_on l.invariant.1 (text_next _ _ _ _ c.loop-k-test.true (read (goal.at.loop-k-preserved c).After-quad_from)) c.quad.ensures)

pub returns : goal.returns
returns c = leads_done c.loop-k.invariant.1 (text_done _ _ _ _ c.loop-k-test.false)
