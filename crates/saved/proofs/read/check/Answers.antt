-- `check` meets its contract: the sections refuse, or the face bytes, or the quads decide.
use Rattle.std.proofs.Common.{rules, ◌≡◌, ◌≤◌, length, sym, ◌∙◌}
use Rattle.std.proofs.lemmas.List.{take_rest}
use Rattle.geometry.specs.Refusal.{accepted, checked}
use Rattle.geometry.proofs.Answers.{handed_on}
use Rattle.saved.specs.Read.{file_checks}
use Rattle.saved.specs.Private.{form_of}
use Rattle.saved.proofs.Walking.{head_inside, face_bytes_inside, walk_start}
use Rattle.saved.proofs.Reading.{sections_refuse, faces_refuse, quads_decide}
use Rattle.saved.proofs.read.check.Goals as goal
use Rattle.saved.proofs.read.check.Goals.{In_ok-check_file, After-first_quads}

-- Past the first check no section is refused.
file : (c : In_ok-check_file) → checked (file_checks (form_of c.args.form) c.args.bytes.now) ≡ accepted tt
file c = sym c.in_ok-check_file.ensures

pub returns-in_err-check_file : goal.returns-in_err-check_file
returns-in_err-check_file c = handed_on _ _ c.from_residual.ensures.1 ∙ sections_refuse (form_of c.args.form) c.args.bytes.now (sym c.in_err-check_file.ensures)

pub check-requires : goal.check-requires
check-requires c = face_bytes_inside (form_of c.args.form) c.args.bytes.now (file (goal.at.check-requires c).In_ok-check_file)

pub returns-in_err-check : goal.returns-in_err-check
returns-in_err-check c =
    handed_on _ _ c.from_residual-in_err-check.ensures.1
    ∙ faces_refuse (form_of c.args.form) c.args.bytes.now (file (goal.at.returns-in_err-check c).In_ok-check_file) (sym c.in_err-check.ensures)

pub faces-faces-requires : goal.faces-faces-requires
faces-faces-requires c = face_bytes_inside (form_of c.args.form) c.args.bytes.now (file (goal.at.faces-faces-requires c).In_ok-check_file)

-- The quads begin where the form says.
inside : (c : After-first_quads) → c.first_quads.result ≤ length c.args.bytes.now
inside c = rw c.first_quads.ensures (head_inside (form_of c.args.form) c.args.bytes.now (sym c.in_ok-check_file.ensures))

pub slice_bounds-check_groups-count : goal.slice_bounds-check_groups-count
slice_bounds-check_groups-count c = inside c

pub slice_bounds-check_groups-start : goal.slice_bounds-check_groups-start
slice_bounds-check_groups-start c = let i = inside c in search rules

pub check_groups-requires : goal.check_groups-requires
check_groups-requires c = rw (take_rest, c.first_quads.ensures) (walk_start (form_of c.args.form) c.args.bytes.now (file (goal.at.check_groups-requires c).In_ok-check_file))

pub returns : goal.returns
returns c =
    quads_decide (form_of c.args.form) c.args.bytes.now (file (goal.at.returns c).In_ok-check_file) (sym c.in_ok-check.ensures) c.faces-faces.ensures
    (rw (take_rest, c.first_quads.ensures) at c.check_groups.ensures)
