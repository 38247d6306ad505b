-- `check_groups` meets its contract: the sections that are left decide as all six do.
use Rattle.std.proofs.Common.{rules, ◌≡◌, ◌+◌, ◌*◌, ◌≤◌, false, length, arith, refl, ◌∙◌}
use native.Mathlib.Nat.{mul-le-mul_right}
use Rattle.geometry.proofs.Answers.{handed_on}
use Rattle.saved.specs.Form.{quad_size}
use Rattle.saved.specs.Read.{ends_early, records_in, after_section}
use Rattle.saved.proofs.Section.{records_length}
use Rattle.saved.proofs.Walking.{walk_whole, walk_on, after_length}
use Rattle.saved.proofs.Asking.{section_on, section_stops, sections_pass}
use Rattle.saved.proofs.read.check_groups.Goals as goal
use Rattle.saved.proofs.read.check_groups.Goals.{In-loop-face, After-first-section}

-- The section at hand is whole,
whole : (c : In-loop-face) → ends_early (quad_size c.args.form.numbers) c.loop-face.rest.now ≡ false
whole c = walk_whole c.loop-face.invariant.walk c.loop-face-test.true

-- it has its records, and what follows it,
are : (c : After-first-section) → c.first-section.result.records.now ≡ records_in (quad_size c.args.form.numbers) c.loop-face.rest.now
are c = rw c.quad_size-size.ensures at c.first-section.ensures.records

follows : (c : After-first-section) → c.first-section.result.after.now ≡ after_section (quad_size c.args.form.numbers) c.loop-face.rest.now
follows c = rw c.quad_size-size.ensures at c.first-section.ensures.after

-- and so many bytes.
exact : (c : After-first-section) → length c.first-section.result.records.now ≡ c.first-section.result.count * quad_size c.args.form.numbers
exact c =
    let w = walk_whole c.loop-face.invariant.walk c.loop-face-test.true in
    rw (are c, c.first-section.ensures.count) (records_length (quad_size c.args.form.numbers) c.loop-face.rest.now w)

long : (c : After-first-section) → length c.loop-face.rest.now ≡ 4 + length c.first-section.result.records.now + length c.first-section.result.after.now
long c =
    let w = walk_whole c.loop-face.invariant.walk c.loop-face-test.true in
    rw (exact c, c.first-section.ensures.count, follows c) (after_length (quad_size c.args.form.numbers) c.loop-face.rest.now w)

-- Its quads are no more than its bytes.
few : (c : After-first-section) → c.first-section.result.count ≤ length c.first-section.result.records.now
few c = omega (arith, exact c, mul-le-mul_right {m = 1} {n = quad_size c.args.form.numbers} c.first-section.result.count (omega (arith, c.args.form.fits.five)))

pub first-section-requires : goal.first-section-requires
first-section-requires c = rw c.quad_size-size.ensures (whole (goal.at.first-section-requires c).In-loop-face)

pub check_group-requires-clause-exact : goal.check_group-requires-clause-exact
check_group-requires-clause-exact c = exact c

pub check_group-requires-clause-first_bound : goal.check_group-requires-clause-first_bound
check_group-requires-clause-first_bound c = let l = long c in search rules

pub returns-in_err-check_group : goal.returns-in_err-check_group
returns-in_err-check_group c =
    let l = c.loop-face in
    let s = (goal.at.returns-in_err-check_group c).After-first-section in
    handed_on _ _ c.from_residual.ensures.1
    ∙ section_stops l.invariant.walk c.loop-face-test.true c.args.faces (search rules) l.first _ c.first-section.ensures.count (are s) (follows s) l.invariant.left c.in_err-check_group.ensures refl

pub overflow_add-first : goal.overflow_add-first
overflow_add-first c =
    let s = (goal.at.overflow_add-first c).After-first-section in
    let l = long s in
    let f = few s in
    search rules

pub loop-face-preserved : goal.loop-face-preserved
loop-face-preserved c =
    let l = c.loop-face in
    let s = (goal.at.loop-face-preserved c).After-first-section in
    record {
      walk = walk_on l.invariant.walk c.loop-face-test.true (follows s);
      first = omega (arith, l.invariant.first, long s, few s);
      left = section_on l.invariant.walk c.loop-face-test.true c.args.faces (search rules) l.first _ c.first-section.ensures.count (are s) (follows s) l.invariant.left c.in_ok-check_group.ensures refl;
    }

pub returns : goal.returns
returns c =
    let l = c.loop-face in
    sections_pass c.args.form.numbers l.face-index l.rest.now c.args.faces l.first l.invariant.left (search rules) c.loop-face-test.false
