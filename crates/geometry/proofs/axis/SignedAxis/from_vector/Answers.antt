-- `SignedAxis::from_vector` meets its contract: the tests on the parts' bits say which parts are zero, and so which case of the match it is.
use borrow.Author.Rules.{sfits_of}
use lib.IntN.{pos}
use mathlib.Core.Bool.{true, false}
use mathlib.Core.Path.{refl, sym, ◌∙◌}
use mir.Facts.{to_z-of_z}
use Rattle.geometry.specs.Axes.{same}
use Rattle.geometry.proofs.Refusals.{split}
use Rattle.geometry.proofs.Axes.{vector_matched}
use Rattle.geometry.proofs.Signs.{zero_bits, nonzero_bits}
use Rattle.geometry.proofs.axis.SignedAxis.from_vector.Goals as goal
use Rattle.geometry.proofs.axis.SignedAxis.from_vector.Goals.{in_default-via-in-0+in_default+in_default, in_default-via-in_default+in-0+in_default, in_default-via-in_default+in_default}

pub returns-in_default-eq0-eq0 : goal.returns-in_default-eq0-eq0
returns-in_default-eq0-eq0 c =
    let fits = c.struct_told-3-1.given in
    let y = zero_bits _ fits.1.0.1 c.in_default-eq0-eq0.is-1 in
    let z = zero_bits _ fits.1.1.0.1 c.in_default-eq0-eq0.is-2 in
    c.new.ensures ∙ rw (to_z-of_z (sfits_of fits.0.1)) (sym (vector_matched _ _ true true refl y z))

pub returns-in-0-eq0-default : goal.returns-in-0-eq0-default
returns-in-0-eq0-default c =
    let fits = c.struct_told-3-1.given in
    let x = zero_bits _ fits.0.1 c.in-0-eq0-default.is-0 in
    let y = zero_bits _ fits.1.0.1 c.in-0-eq0-default.is-1 in
    let z = nonzero_bits _ c.in-0-eq0-default.is-2.1 in
    c.new-in-0-eq0-default.ensures ∙ rw (to_z-of_z (sfits_of fits.1.1.0.1)) (sym (vector_matched _ true true false x y z))

pub returns-in-0-default-eq0 : goal.returns-in-0-default-eq0
returns-in-0-default-eq0 c =
    let fits = c.struct_told-3-1.given in
    let x = zero_bits _ fits.0.1 c.in-0-default-eq0.is-0 in
    let z = zero_bits _ fits.1.1.0.1 c.in-0-default-eq0.is-2 in
    let y = nonzero_bits _ c.in-0-default-eq0.is-1.1 in
    c.new-in-0-default-eq0.ensures ∙ rw (to_z-of_z (sfits_of fits.1.0.1)) (sym (vector_matched _ true false true x y z))

pub returns-in_default : goal.returns-in_default
returns-in_default c =
    let v = c.args.v in
    let fits = c.struct_told-3-1.given in
    rw c.at.ensures
    (elim c.in_default.branch [
      | in_default-via-in-0+in_default+in_default w ↦ sym (vector_matched v false true false (nonzero_bits v.x w.in_default.is-0.1) (zero_bits v.y fits.1.0.1 w.in_default.is-1) (nonzero_bits v.z w.in_default.is-2.1))
      | in_default-via-in_default+in-0+in_default w ↦ sym (vector_matched v true false false (zero_bits v.x fits.0.1 w.in_default.is-0) (nonzero_bits v.y w.in_default.is-1.1) (nonzero_bits v.z w.in_default.is-2.1))
      | in_default-via-in_default+in_default w ↦
          let x = nonzero_bits v.x w.in_default.is-0.1 in
          let y = nonzero_bits v.y w.in_default.is-1.1 in
          split (same v.z (pos 0)) (λ t. sym (vector_matched v false false true x y t)) (λ f. sym (vector_matched v false false false x y f))
    ])
