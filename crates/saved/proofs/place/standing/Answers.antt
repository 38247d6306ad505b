-- `standing` meets its contract: each refusal stands where what it speaks of does.
use Rattle.std.proofs.Common.{◌≢◌, arith}
use borrow.Author.Tests.{ne_eqb}
use Rattle.saved.specs.Where.{from_refusal}
use Rattle.saved.proofs.place.standing.Goals as goal

pub returns-in-16 : goal.returns-in-16
unfolding from_refusal
returns-in-16 c = rw c.in-16.is c.section.ensures

pub returns-in-17 : goal.returns-in-17
unfolding from_refusal
returns-in-17 c = rw c.in-17.is c.face.ensures

pub returns-in-12 : goal.returns-in-12
unfolding from_refusal
returns-in-12 c = rw c.in-12.is c.quad.ensures

pub returns-in_default : goal.returns-in_default
unfolding from_refusal
returns-in_default c =
    let n = c.args.number in
    let file : n ≢ 16 = omega arith in
    let face : n ≢ 17 = omega arith in
    let quad : n ≢ 12 = omega arith in
    rw (from_refusal, ne_eqb n 16 file, ne_eqb n 17 face, ne_eqb n 12 quad)
