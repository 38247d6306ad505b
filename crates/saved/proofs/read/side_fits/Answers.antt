-- `side_fits` meets its contract: its two tests are the rule's.
use borrow.Author.Tests.{le-leb, lt-leb}
use native.Mathlib.Omega.{arith}
use Rattle.geometry.specs.Quad.{side_within_limits}
use Rattle.saved.proofs.read.side_fits.Goals as goal

pub returns-then-side-eq0 : goal.returns-then-side-eq0
unfolding side_within_limits
returns-then-side-eq0 c = simp (lt-leb 1 c.args.side (omega arith))

pub returns : goal.returns
unfolding side_within_limits
returns c = simp (le-leb 1 c.args.side (omega arith))
