-- `OrientedBlockFace::check_sign` meets its contract: the two tests on the sign's bits are the rule's.
use Rattle.std.proofs.Common.{rules}
use borrow.Author.Rules.{sfits_of}
use mathlib.Core.List.{[]}
use mathlib.Core.Path.{sym}
use Rattle.geometry.specs.Axes.{one, minus_one}
use Rattle.geometry.specs.Checks.{bad_sign}
use Rattle.geometry.proofs.Refusals.{applies, passes_alone}
use Rattle.geometry.proofs.Signs.{bits_equal, bits_differ, proper_one, proper_minus_one, proper_neither}
use Rattle.geometry.proofs.face.OrientedBlockFace.check_sign.Goals as goal

pub returns-then-sign-eq1 : goal.returns-then-sign-eq1
returns-then-sign-eq1 c = sym (passes_alone (bad_sign c.args.self) (proper_one _ (bits_equal (sfits_of c.struct_told-1.given.0.1) (search rules) c.if-sign-eq1.true)))

pub returns-then-sign : goal.returns-then-sign
returns-then-sign c = sym (passes_alone (bad_sign c.args.self) (proper_minus_one _ (bits_equal (sfits_of c.struct_told-1.given.0.1) (search rules) c.if-sign.true)))

pub returns : goal.returns
returns c = rw c.at.ensures (sym (applies (bad_sign c.args.self) [] _ (proper_neither _ (bits_differ _ one c.if-sign-eq1.false) (bits_differ _ minus_one c.if-sign.false))))
