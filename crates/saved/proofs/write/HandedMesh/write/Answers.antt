-- `write` meets its contract: it looks whether the file fits, and writes it where it does.
use Rattle.std.proofs.Common.{rules, ◌≡◌, ℕ, ◌+◌, ◌*◌, ◌≤◌, ◌<◌, List, ◌++◌, length, drop, sym, ◌∙◌, arith, length-take-le}
use native.Mathlib.Nat.{mul-le-mul_left}
use Rattle.geometry.specs.declared.face.OrientedBlockFace.{OrientedBlockFace}
use Rattle.geometry.specs.Refusal.{accepted, refused, checked}
use Rattle.listing.specs.Listing.{overwritten}
use Rattle.writing.specs.Handed.{most_quads, handed_checks}
use Rattle.writing.specs.Written.{write_answer, outcome}
use Rattle.writing.specs.Statements.{Passes}
use Rattle.writing.proofs.Ordered.{order_passed}
use Rattle.writing.proofs.Outcome.{short_refused, enough_written}
use Rattle.saved.specs.Form.{Form}
use Rattle.saved.specs.Saved.{file_of, write_form}
use Rattle.saved.specs.Private.{form_of}
use Rattle.saved.proofs.Size.{handed_size}
use Rattle.saved.proofs.write.HandedMesh.write.Goals as goal
use Rattle.saved.proofs.write.HandedMesh.write.Goals.{After-quad_size}

module _ (form : Form) (faces : List OrientedBlockFace) (counts list out : List ℕ) (passed : checked (handed_checks form.numbers faces counts list) ≡ accepted tt) where
  -- A file that is longer than the output is refused by 15,
  short : length out < length (file_of form faces counts list) → outcome (write_answer (refused 15 0)) out ≡ write_form form (handed_checks form.numbers faces counts list) faces counts list out
  unfolding write_form
  short h = sym (short_refused (handed_checks form.numbers faces counts list) (file_of form faces counts list) out passed h)

  -- and any other is written, and its length answered.
  writes : {n : ℕ} {new : List ℕ} → n ≡ length (file_of form faces counts list) → new ≡ file_of form faces counts list
      → n ≤ length out → outcome (write_answer (accepted n)) (new ++ drop n out) ≡ write_form form (handed_checks form.numbers faces counts list) faces counts list out
  unfolding write_form overwritten
  writes long left h = rw (left, long) (sym (enough_written (handed_checks form.numbers faces counts list) (file_of form faces counts list) out passed (rw (← long) h)))

passes : (c : After-quad_size) → Passes c.args.self.now.form.numbers c.args.self.now.faces c.args.self.now.counts c.args.self.now.quads.now
passes c = order_passed c.args.self.now.form.numbers c.args.self.now.faces c.args.self.now.counts c.args.self.now.quads.now c.args.self.now.passes

-- The bytes of few quads are few.
few_bytes : (all numbers : ℕ) → all ≤ most_quads → numbers ≤ 6 → all * (numbers * 4) ≤ 25_769_803_752
few_bytes all numbers few six = omega (arith, mul-le-mul_left {m = numbers * 4} {n = 24} all (omega arith))

few : (c : After-quad_size) → c.args.self.now.all * c.quad_size.result ≤ 25_769_803_752
few c = rw c.quad_size.ensures (few_bytes c.args.self.now.all c.args.self.now.form.numbers (rw c.args.self.now.summed (passes c).few) c.args.self.now.form.fits.few)

-- So many bytes are looked for.
long : (c : After-quad_size) → 34 + length c.args.self.now.form.mark.now + c.args.self.now.all * c.quad_size.result ≡ length (file_of (form_of c.args.self.now.form) c.args.self.now.faces c.args.self.now.counts c.args.self.now.quads.now)
long c =
    let a = c.args in
    rw (c.args.self.now.summed, c.quad_size.ensures) (sym (handed_size a.self.now.form.numbers a.self.now.form.mark.now a.self.now.faces a.self.now.counts a.self.now.quads.now (search rules) (search rules) (passes c).held))

pub overflow_mul-records : goal.overflow_mul-records
overflow_mul-records c = record { fits = omega (arith, few c) }

pub overflow_add-length-2 : goal.overflow_add-length-2
overflow_add-length-2 c = record { fits = omega (arith, few c, c.args.self.now.form.fits.short) }

pub returns-then-out-length : goal.returns-then-out-length
returns-then-out-length c =
    let a = c.args in
    rw c.at.ensures (short (form_of a.self.now.form) a.self.now.faces a.self.now.counts a.self.now.quads.now a.out.now c.args.self.now.passes (omega (arith, long (goal.at.returns-then-out-length c).After-quad_size, c.if-out-length.true)))

pub file-requires : goal.file-requires
file-requires c = length-take-le _ c.args.out.now c.if-out-length.false ∙ long (goal.at.file-requires c).After-quad_size

pub returns : goal.returns
returns c =
    let a = c.args in
    writes (form_of a.self.now.form) a.self.now.faces a.self.now.counts a.self.now.quads.now a.out.now c.args.self.now.passes (long (goal.at.returns c).After-quad_size) c.file.ensures c.if-out-length.false
