-- `write_obj` meets its contract: it checks the mesh, looks whether its text fits, and writes it where it does.
use mathlib.Core.Bool.{Bool}
use mathlib.Core.List.{List}
use mathlib.Core.Path.{◌≡◌, sym, ◌∙◌}
use Prim.Native.Nat.{ℕ, ◌≤◌, ◌<◌}
use lib.Dec.{leb}
use lib.ListN.{length}
use borrow.Author.Tests.{leb-true, leb-false}
use Rattle.geometry.specs.declared.face.OrientedBlockFace.{OrientedBlockFace}
use Rattle.geometry.specs.Refusal.{accepted, refused, checked}
use Rattle.geometry.proofs.Answers.{handed_on}
use Rattle.geometry.proofs.Refusals.{accepts_checked, accepts_value, answer_refused}
use Rattle.listing.specs.Listing.{overwritten}
use Rattle.writing.specs.Handed.{total, listed_checks}
use Rattle.writing.specs.Written.{outcome, write_answer}
use Rattle.writing.proofs.Outcome.{checks_refuse, short_refused, enough_written}
use Rattle.obj.specs.Obj.{obj_text, write_obj}
use Rattle.obj.proofs.write_obj.Goals as goal
use Rattle.obj.proofs.write_obj.Goals.{In_ok-all, After-fits}

module _ (faces : List OrientedBlockFace) (counts list out : List ℕ) where
  -- A refusal by one of the checks is handed on,
  refuses : {n p : ℕ} → checked (listed_checks faces counts list) ≡ refused n p → outcome (write_answer (refused n p)) out ≡ write_obj faces counts list out
  unfolding write_obj
  refuses e = sym (checks_refuse (listed_checks faces counts list) (obj_text faces counts list) out e)

  -- a text that is longer than the output is refused by 15,
  short : checked (listed_checks faces counts list) ≡ accepted tt → length out < length (obj_text faces counts list) → outcome (write_answer (refused 15 0)) out ≡ write_obj faces counts list out
  unfolding write_obj
  short e h = sym (short_refused (listed_checks faces counts list) (obj_text faces counts list) out e h)

  -- and any other is written, and its length answered.
  writes : {n : ℕ} {last : List ℕ} → n ≡ length (obj_text faces counts list) → last ≡ overwritten (obj_text faces counts list) out
      → checked (listed_checks faces counts list) ≡ accepted tt → length (obj_text faces counts list) ≤ length out → outcome (write_answer (accepted n)) last ≡ write_obj faces counts list out
  unfolding write_obj
  writes long left e h = rw (long, left) (sym (enough_written (listed_checks faces counts list) (obj_text faces counts list) out e h))

-- Where the mesh has quads its checks have passed,
passed : (c : In_ok-all) → let a = c.args in checked (listed_checks a.faces a.counts a.quads.now) ≡ accepted tt
passed c =
    let a = c.args in
    accepts_checked (listed_checks a.faces a.counts a.quads.now) (total a.counts) (sym c.in_ok-all.ensures)

-- and so many quads it has.
summed : (c : In_ok-all) → c.in_ok-all.all ≡ total c.args.counts
summed c =
    let a = c.args in
    sym (accepts_value (listed_checks a.faces a.counts a.quads.now) (total a.counts) (sym c.in_ok-all.ensures))

-- Whether the text fits.
fit : (c : After-fits) → {b : Bool} → c.fits.result ≡ b → let a = c.args in leb (length (obj_text a.faces a.counts a.quads.now)) (length a.out.now) ≡ b
fit c e = sym c.fits.ensures ∙ e

pub invariant_of-mesh : goal.invariant_of-mesh
invariant_of-mesh c = record { passed = passed (goal.at.invariant_of-mesh c).In_ok-all; summed = summed (goal.at.invariant_of-mesh c).In_ok-all }

pub returns-in_err-all : goal.returns-in_err-all
returns-in_err-all c =
    let a = c.args in
    rw (handed_on c.from_residual.result c.in_err-all.field-0.0 c.from_residual.ensures.1)
    (refuses _ _ _ _ (answer_refused (listed_checks a.faces a.counts a.quads.now) (total a.counts) (sym c.in_err-all.ensures)))

pub returns-then-not-fits : goal.returns-then-not-fits
returns-then-not-fits c = rw c.at.ensures (short _ _ _ _ (passed (goal.at.returns-then-not-fits c).In_ok-all) (leb-false _ _ (fit (goal.at.returns-then-not-fits c).After-fits c.if-not-fits.true)))

pub returns : goal.returns
returns c =
    let enough = leb-true _ _ (fit (goal.at.returns c).After-fits c.if-not-fits.false) in
    writes _ _ _ _ c.mesh.ensures.value c.mesh.ensures.out_after (passed (goal.at.returns c).In_ok-all) enough
