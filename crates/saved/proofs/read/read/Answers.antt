-- `read` meets its contract: a check refuses, or the output holds fewer quads, or they are taken.
use Rattle.std.proofs.Common.{rules, ◌≡◌, ◌-◌, ◌/◌, ◌≤◌, length, sym, ◌∙◌, length-take-le, arith}
use Rattle.std.proofs.lemmas.List.{take_rest}
use Rattle.geometry.specs.Refusal.{accepted, checked}
use Rattle.geometry.proofs.Answers.{handed_on}
use Rattle.saved.specs.Read.{file_checks, read_checks}
use Rattle.saved.specs.Private.{form_of}
use Rattle.saved.specs.Form.{quad_size}
use Rattle.saved.proofs.Walking.{first_quads, head_inside, face_bytes_inside, walk_start}
use Rattle.saved.proofs.Reading.{read_refused, file_passed, counts_there, numbers_are, read_many, read_room, read_done}
use Rattle.saved.proofs.read.read.Goals as goal
use Rattle.saved.proofs.read.read.Goals.{In_ok-check, After-first_quads-start, Else-capacity-quads, Start}

-- Past the checks nothing is refused,
passed : (c : In_ok-check) → checked (read_checks (form_of c.args.form) c.args.bytes.now) ≡ accepted tt
passed c = sym c.in_ok-check.ensures

-- no section among it,
file : (c : In_ok-check) → checked (file_checks (form_of c.args.form) c.args.bytes.now) ≡ accepted tt
file c = file_passed (form_of c.args.form) c.args.bytes.now (passed c)

-- the quads begin where the form says,
inside : (c : After-first_quads-start) → c.first_quads-start.result ≤ length c.args.bytes.now
inside c = rw c.first_quads-start.ensures (head_inside (form_of c.args.form) c.args.bytes.now (file_passed (form_of c.args.form) c.args.bytes.now (sym c.in_ok-check.ensures)))

-- and a quad has numbers.
some : (c : Start) → 1 ≤ c.args.form.numbers
some c = omega (arith, c.args.form.fits.five)

-- Where the output does not hold fewer it has room for them.
fits : (c : Else-capacity-quads) → (length c.args.bytes.now - first_quads c.args.form.mark.now - 24) / quad_size c.args.form.numbers ≤ length c.args.out.now / c.args.form.numbers
fits c = rw (c.first_quads-start.ensures, c.quad_size.ensures) at c.if-capacity-quads.false

pub returns-in_err-check : goal.returns-in_err-check
returns-in_err-check c =
    rw (handed_on c.from_residual.result c.in_err-check.field-0.0 c.from_residual.ensures.1) (read_refused (form_of c.args.form) c.args.bytes.now c.args.out.now (sym c.in_err-check.ensures))

pub overflow_sub-records : goal.overflow_sub-records
overflow_sub-records c = inside c

pub overflow_sub-records-2 : goal.overflow_sub-records-2
overflow_sub-records-2 c = rw c.first_quads-start.ensures (counts_there (form_of c.args.form) c.args.bytes.now (passed (goal.at.overflow_sub-records-2 c).In_ok-check))

pub returns-then-capacity-quads : goal.returns-then-capacity-quads
returns-then-capacity-quads c =
    rw c.at.ensures
    (read_many (form_of c.args.form) c.args.bytes.now (passed (goal.at.returns-then-capacity-quads c).In_ok-check) (some (goal.at.returns-then-capacity-quads c).Start) c.args.out.now
    (rw (c.first_quads-start.ensures, c.quad_size.ensures) at c.if-capacity-quads.true))

pub slice_bounds-take_groups-count : goal.slice_bounds-take_groups-count
slice_bounds-take_groups-count c = inside (goal.at.slice_bounds-take_groups-count c).After-first_quads-start

pub slice_bounds-take_groups-start : goal.slice_bounds-take_groups-start
slice_bounds-take_groups-start c = let i = inside (goal.at.slice_bounds-take_groups-start c).After-first_quads-start in search rules

pub take_groups-counts-requires-clause-walk : goal.take_groups-counts-requires-clause-walk
take_groups-counts-requires-clause-walk c =
    rw (take_rest, c.first_quads-start.ensures) (walk_start (form_of c.args.form) c.args.bytes.now (file (goal.at.take_groups-counts-requires-clause-walk c).In_ok-check))

pub take_groups-counts-requires-clause-exact : goal.take_groups-counts-requires-clause-exact
take_groups-counts-requires-clause-exact c =
    let form = form_of c.args.form in
    let b = c.args.bytes.now in
    let p = passed (goal.at.take_groups-counts-requires-clause-exact c).In_ok-check in
    let s = some (goal.at.take_groups-counts-requires-clause-exact c).Start in
    let f = fits (goal.at.take_groups-counts-requires-clause-exact c).Else-capacity-quads in
    rw (take_rest, c.first_quads-start.ensures, c.quad_size.ensures)
    (length-take-le _ c.args.out.now (read_room form b p s c.args.out.now f) ∙ numbers_are form b p s)

pub faces-faces-requires : goal.faces-faces-requires
faces-faces-requires c = face_bytes_inside (form_of c.args.form) c.args.bytes.now (file (goal.at.faces-faces-requires c).In_ok-check)

pub returns : goal.returns
returns c =
    let p = passed (goal.at.returns c).In_ok-check in
    let s = some (goal.at.returns c).Start in
    let f = fits (goal.at.returns c).Else-capacity-quads in
    rw (c.first_quads-start.ensures, c.quad_size.ensures)
    (read_done (form_of c.args.form) c.args.bytes.now p s c.args.out.now f
    (rw (take_rest, c.first_quads-start.ensures) at c.take_groups-counts.ensures.value)
    c.faces-faces.ensures
    (rw (take_rest, c.first_quads-start.ensures) at c.take_groups-counts.ensures.out_after))
