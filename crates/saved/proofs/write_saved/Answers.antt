-- `write_saved` meets its contract: it checks the mesh, and writes one that passes in the first form.
use mathlib.Core.List.{List}
use mathlib.Core.Path.{◌≡◌, sym}
use Prim.Native.Nat.{ℕ}
use Rattle.geometry.specs.declared.face.OrientedBlockFace.{OrientedBlockFace}
use Rattle.geometry.specs.Refusal.{accepted, refused, checked}
use Rattle.geometry.proofs.Answers.{handed_on}
use Rattle.geometry.proofs.Refusals.{accepts_checked, accepts_value, answer_refused}
use Rattle.writing.specs.Handed.{total, five_checks}
use Rattle.writing.specs.Written.{write_answer, outcome}
use Rattle.writing.proofs.Outcome.{checks_refuse}
use Rattle.saved.specs.Form.{first_form}
use Rattle.saved.specs.Saved.{file_of, write_form, write_saved}
use Rattle.saved.proofs.write_saved.Goals as goal
use Rattle.saved.proofs.write_saved.Goals.{In_ok-all}

-- A refusal by one of the checks is handed on,
refuses : (faces : List OrientedBlockFace) (counts list out : List ℕ) {n p : ℕ} → checked (five_checks faces counts list) ≡ refused n p
    → outcome (write_answer (refused n p)) out ≡ write_saved faces counts list out
unfolding write_saved write_form
refuses faces counts list out e = sym (checks_refuse (five_checks faces counts list) (file_of first_form faces counts list) out e)

-- and where the mesh has quads its checks have passed,
passed : (c : In_ok-all) → let a = c.args in checked (five_checks a.faces a.counts a.quads.now) ≡ accepted tt
passed c =
    let a = c.args in
    accepts_checked (five_checks a.faces a.counts a.quads.now) (total a.counts) (sym c.in_ok-all.ensures)

-- and so many quads it has.
summed : (c : In_ok-all) → c.in_ok-all.all ≡ total c.args.counts
summed c =
    let a = c.args in
    sym (accepts_value (five_checks a.faces a.counts a.quads.now) (total a.counts) (sym c.in_ok-all.ensures))

pub invariant_of-mesh-2 : goal.invariant_of-mesh-2
invariant_of-mesh-2 c = record { passes = passed (goal.at.invariant_of-mesh-2 c).In_ok-all; summed = summed (goal.at.invariant_of-mesh-2 c).In_ok-all }

pub returns-in_err-all : goal.returns-in_err-all
returns-in_err-all c =
    let a = c.args in
    rw (handed_on c.from_residual.result c.in_err-all.field-0.0 c.from_residual.ensures.1)
    (refuses _ _ _ _ (answer_refused (five_checks a.faces a.counts a.quads.now) (total a.counts) (sym c.in_err-all.ensures)))

pub returns : goal.returns
unfolding write_saved
returns c = c.write.ensures
