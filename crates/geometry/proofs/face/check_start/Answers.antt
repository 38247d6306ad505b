-- `check_start` meets its contract: its test is the rule's.
use borrow.Author.Tests.{lt-ltb, le-ltb}
use mathlib.Core.List.{[]}
use mathlib.Core.Path.{sym}
use Rattle.geometry.specs.Checks.{bad_start, last_start}
use Rattle.geometry.proofs.Refusals.{applies, passes_alone}
use Rattle.geometry.proofs.face.check_start.Goals as goal

pub returns-then-first-gt-LAST_START : goal.returns-then-first-gt-LAST_START
returns-then-first-gt-LAST_START c = rw c.at.ensures (sym (applies (bad_start c.args.start) [] _ (lt-ltb last_start c.args.start.0 c.if-first-gt-LAST_START.true)))

pub returns : goal.returns
returns c = sym (passes_alone (bad_start c.args.start) (le-ltb last_start c.args.start.0 c.if-first-gt-LAST_START.false))
