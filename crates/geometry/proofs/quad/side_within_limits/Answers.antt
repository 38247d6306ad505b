-- `side_within_limits` meets its contract: what is left above the start is at least the side exactly where their sum is within the largest axis.
use Prim.Native.Nat.{◌+◌}
use borrow.Author.Tests.{le-leb, lt-leb}
use native.Mathlib.Omega.{arith}
use Rattle.geometry.specs.Quad.{largest_axis, side_within_limits}
use Rattle.geometry.proofs.quad.side_within_limits.Goals as goal

pub returns-then-side-eq0 : goal.returns-then-side-eq0
unfolding side_within_limits
returns-then-side-eq0 c = let a = c.args in simp (lt-leb 1 a.side (omega arith))

pub returns-then-start-gt-LARGEST_AXIS : goal.returns-then-start-gt-LARGEST_AXIS
unfolding side_within_limits
returns-then-start-gt-LARGEST_AXIS c = let a = c.args in simp (le-leb 1 a.side (omega arith), lt-leb (a.start + a.side) largest_axis (omega arith))

pub returns-then-start-side : goal.returns-then-start-side
unfolding side_within_limits
returns-then-start-side c = let a = c.args in simp (le-leb 1 a.side (omega arith), lt-leb (a.start + a.side) largest_axis (omega arith))

pub returns : goal.returns
unfolding side_within_limits
returns c = let a = c.args in simp (le-leb 1 a.side (omega arith), le-leb (a.start + a.side) largest_axis (omega arith))
