-- `check_group` meets its contract: the quads that are left decide as all of the group do.
use Rattle.std.proofs.Common.{rules}
use mathlib.Core.List.{[], ◌∷◌}
use mathlib.Core.Path.{◌≡◌, sym, ◌∙◌, ap}
use Prim.Native.Nat.{◌+◌, ◌-◌, ◌*◌, ◌≤◌}
use native.Mathlib.Omega.{arith}
use lib.ListN.{length, drop}
use Rattle.geometry.specs.Refusal.{checked}
use Rattle.geometry.specs.Answers.{meaning}
use Rattle.geometry.specs.Checks.{bad_quad}
use Rattle.greedy.specs.Call.{quad_from}
use Rattle.writing.specs.Handed.{bad_quad_at}
use Rattle.writing.proofs.Rest.{in_start, in_on, quad_held, group_held, capacity_most, group_start, quad_cut}
use Rattle.writing.proofs.Checking.{quad_on, quad_stops, quads_pass}
use Rattle.writing.proofs.handed.check_group.Goals as goal
use Rattle.writing.proofs.handed.check_group.Goals.{After-check_quad, In-loop-k}

-- In the loop the numbers of the quad at hand are the list's.
held : (c : In-loop-k) → c.loop-k.at + c.args.numbers ≤ length c.args.quads.now
held c = quad_held (length c.args.quads.now) c.loop-k.invariant.0 c.requires.count_bound c.loop-k-test.true

-- The check of the quad at hand is that of the mesh's quad, which stands at its place in the list.
told : (c : After-check_quad)
    → meaning c.check_quad.result ≡ checked (bad_quad c.args.face (quad_from (drop c.loop-k.at c.args.quads.now)) ∷ [])
told c =
    let at = c.loop-k.at in
    let five : 5 ≤ at + 5 - at = omega arith in
    c.check_quad.ensures ∙ ap (λ q. checked (bad_quad c.args.face q ∷ [])) (c.quad_from-quad.ensures ∙ quad_cut (at + 5 - at) (drop at c.args.quads.now) five)

pub overflow_mul-at : goal.overflow_mul-at
overflow_mul-at c = let a = c.args in record { fits = omega (arith, group_held a.numbers (length a.quads.now) a.first (omega (arith, c.requires.count_bound))) }

pub loop-k-init : goal.loop-k-init
loop-k-init c = let a = c.args in (in_start, ap checked (group_start bad_quad_at a.numbers a.quads.now a.face a.first (a.first * a.numbers) a.count))

pub overflow_add-end : goal.overflow_add-end
overflow_add-end c = record { fits = omega (arith, held (goal.at.overflow_add-end c).In-loop-k, c.requires.le_numbers) }

pub offset_bounds-quads-at : goal.offset_bounds-quads-at
offset_bounds-quads-at c = let h = held (goal.at.offset_bounds-quads-at c).In-loop-k in search rules

pub slice_bounds-quad_from-end : goal.slice_bounds-quad_from-end
slice_bounds-quad_from-end c = let h = held (goal.at.slice_bounds-quad_from-end c).In-loop-k in search rules

pub overflow_add-number : goal.overflow_add-number
overflow_add-number c = record { fits = omega (arith, c.requires.count_bound, capacity_most c.args.numbers (length c.args.quads.now) (omega (arith, c.requires.le_numbers))) }

pub returns-in-Err : goal.returns-in-Err
returns-in-Err c =
    let a = c.args in
    let l = c.loop-k in
    rw c.at.ensures (quad_stops a.numbers a.quads.now a.face a.first l.at l.k a.count l.invariant.1 c.loop-k-test.true (sym (told (goal.at.returns-in-Err c).After-check_quad) ∙ ap meaning c.in-Err.is))

pub overflow_add-at : goal.overflow_add-at
overflow_add-at c = record { fits = omega (arith, held (goal.at.overflow_add-at c).In-loop-k) }

pub loop-k-preserved : goal.loop-k-preserved
loop-k-preserved c =
    let a = c.args in
    let l = c.loop-k in
    (in_on l.invariant.0 c.loop-k-test.true, quad_on a.numbers a.quads.now a.face a.first l.at l.k a.count l.invariant.1 c.loop-k-test.true (sym (told (goal.at.loop-k-preserved c).After-check_quad) ∙ ap meaning c.in_default.is))

pub returns : goal.returns
returns c =
    let a = c.args in
    let l = c.loop-k in
    quads_pass a.numbers a.quads.now a.face a.first l.at l.k a.count l.invariant.1 c.loop-k-test.false
