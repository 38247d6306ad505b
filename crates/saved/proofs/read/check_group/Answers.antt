-- `check_group` meets its contract: the quads that are left decide as all of them do.
use Rattle.std.proofs.Common.{◌≡◌, ℕ, ◌*◌, List, length, ap, ◌∙◌, arith}
use Rattle.std.proofs.lemmas.List.{length_push}
use Rattle.std.proofs.lemmas.List.FromFn.{length-enumerate_from}
use Rattle.std.specs.Iterator.Adapters.{enumerate_steps, enumerate_source, enumerate_count}
use Rattle.std.specs.Slice.Iter.{chunks_exact_rest, chunks_exact_size, chunks_exact_steps}
use denote.Ref.{Bor}
use Rattle.std.specs.List.{enumerate_from}
use Rattle.std.proofs.lemmas.Iterator.{YieldsList}
use Rattle.std.proofs.lemmas.Iterator.Consumers.{YieldsList-from_enumerate, YieldsList-turn, YieldsList-end}
use Rattle.geometry.specs.declared.axis.Axes.{Axes}
use Rattle.geometry.specs.Point.{axis_number}
use Rattle.geometry.specs.Axes.{axes_of}
use Rattle.geometry.specs.Quad.{within_limits}
use Rattle.saved.specs.Bytes.{pieces}
use Rattle.saved.specs.Form.{quad_size}
use Rattle.saved.specs.Private.{quad_of}
use Rattle.saved.proofs.Pieces.{chunks_are_pieces, counted}
use Rattle.saved.proofs.Limits.{fits_limits, within_passes, outside_refused}
use Rattle.saved.proofs.Asking.{quad_on, quad_stops, quads_pass}
use Rattle.saved.proofs.read.check_group.Goals as goal
use Rattle.saved.proofs.read.check_group.Goals.{At-loop-k, After-quad_fits}

-- The quads of the section, by their bytes.
abbrev quads : (c : At-loop-k) → List (List ℕ)
quads c = pieces (quad_size c.args.form.numbers) c.args.section.count c.args.section.records.now

-- The loop goes over them.
road : (c : At-loop-k) → YieldsList (enumerate_steps chunks_exact_steps) (λ (p : ℕ × Bor (List ℕ)). (p.0, p.1.now)) c.into_iter-k-iterator.result (enumerate_from 0 (quads c))
road c =
    let a = c.args in
    let sized : chunks_exact_size (enumerate_source c.into_iter-k-iterator.result) ≡ quad_size a.form.numbers = cc in
    let is : chunks_exact_rest (enumerate_source c.into_iter-k-iterator.result) ≡ a.section.records.now = cc in
    let none : enumerate_count c.into_iter-k-iterator.result ≡ 0 = cc in
    YieldsList-from_enumerate (chunks_are_pieces (quad_size a.form.numbers) (omega (arith, a.form.fits.five)) a.section.count a.section.records.now sized is c.requires.exact) none

-- Its numbers tell whether a quad is within the limits.
told : (c : After-quad_fits) → c.quad_fits.result ≡ within_limits (axes_of c.args.face.permutation) (quad_of c.in-Some.quad.now)
told c =
    let a = c.args in
    let u : 4 * c.index-u.result ≡ 4 * axis_number (axes_of a.face.permutation).u = ap (λ n. 4 * n) (c.index-u.ensures ∙ ap (λ (x : Axes). axis_number x.u) c.axes-axes.ensures) in
    let v : 4 * c.index-v.result ≡ 4 * axis_number (axes_of a.face.permutation).v = ap (λ n. 4 * n) (c.index-v.ensures ∙ ap (λ (x : Axes). axis_number x.v) c.axes-axes.ensures) in
    c.quad_fits.ensures ∙ fits_limits c.in-Some.quad.now (axes_of a.face.permutation) u v

pub returns-then-not-quad_fits : goal.returns-then-not-quad_fits
returns-then-not-quad_fits c =
    let a = c.args in
    let ps = quads (goal.at.returns-then-not-quad_fits c).At-loop-k in
    let t = YieldsList-turn (road (goal.at.returns-then-not-quad_fits c).At-loop-k) c.loop-k.yielded _ c.loop-k.yielded_by _ _ (c.in-Some.k, c.in-Some.quad) c.in-Some.is c.next.ensures.steps in
    let (inside, number, quad) = counted ps (length c.loop-k.yielded) c.in-Some.k c.in-Some.quad.now t.0 t.1 in
    rw (c.at.ensures, number)
    (quad_stops a.form.numbers a.form.fits.five a.face a.first (length c.loop-k.yielded) ps c.loop-k.invariant inside
    (rw quad at (outside_refused a.face (quad_of c.in-Some.quad.now) (told (goal.at.returns-then-not-quad_fits c).After-quad_fits) c.if-not-quad_fits.true)))

pub loop-k-preserved : goal.loop-k-preserved
loop-k-preserved c =
    let a = c.args in
    let ps = quads (goal.at.loop-k-preserved c).At-loop-k in
    let t = YieldsList-turn (road (goal.at.loop-k-preserved c).At-loop-k) c.loop-k.yielded _ c.loop-k.yielded_by _ _ (c.in-Some.k, c.in-Some.quad) c.in-Some.is c.next.ensures.steps in
    let (inside, number, quad) = counted ps (length c.loop-k.yielded) c.in-Some.k c.in-Some.quad.now t.0 t.1 in
    rw length_push
    (quad_on a.form.numbers a.form.fits.five a.face a.first (length c.loop-k.yielded) ps c.loop-k.invariant inside
    (rw quad at (within_passes a.face (quad_of c.in-Some.quad.now) (told (goal.at.loop-k-preserved c).After-quad_fits) c.if-not-quad_fits.false)))

pub returns : goal.returns
returns c =
    let a = c.args in
    let ps = quads (goal.at.returns c).At-loop-k in
    let t = YieldsList-end (road (goal.at.returns c).At-loop-k) c.loop-k.yielded _ c.loop-k.yielded_by _ _ c.in-None.is c.next.ensures.steps in
    quads_pass a.form.numbers a.form.fits.five a.face a.first (length c.loop-k.yielded) ps c.loop-k.invariant (omega (arith, t.1, length-enumerate_from 0 ps))
