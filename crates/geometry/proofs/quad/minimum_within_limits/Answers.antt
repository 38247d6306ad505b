-- `minimum_within_limits` meets its contract: its three tests are the rule's.
use Prim.Native.Nat.{◌-◌}
use borrow.Author.Tests.{le-leb, lt-leb}
use native.Mathlib.Omega.{arith}
use Rattle.geometry.specs.Quad.{largest_axis, minimum_within_limits}
use Rattle.geometry.proofs.quad.minimum_within_limits.Goals as goal

pub returns-then-p-ge-LARGEST_AXIS : goal.returns-then-p-ge-LARGEST_AXIS
unfolding minimum_within_limits
returns-then-p-ge-LARGEST_AXIS c = let p = c.args.p in simp (lt-leb p.x (largest_axis - 1) (omega arith))

pub returns-then-p-ge-LARGEST_AXIS-2 : goal.returns-then-p-ge-LARGEST_AXIS-2
unfolding minimum_within_limits
returns-then-p-ge-LARGEST_AXIS-2 c = let p = c.args.p in simp (le-leb p.x (largest_axis - 1) (omega arith), lt-leb p.y (largest_axis - 1) (omega arith))

pub returns-then-p-ge-LARGEST_AXIS-3 : goal.returns-then-p-ge-LARGEST_AXIS-3
unfolding minimum_within_limits
returns-then-p-ge-LARGEST_AXIS-3 c = let p = c.args.p in simp (le-leb p.x (largest_axis - 1) (omega arith), le-leb p.y (largest_axis - 1) (omega arith), lt-leb p.z (largest_axis - 1) (omega arith))

pub returns : goal.returns
unfolding minimum_within_limits
returns c = let p = c.args.p in simp (le-leb p.x (largest_axis - 1) (omega arith), le-leb p.y (largest_axis - 1) (omega arith), le-leb p.z (largest_axis - 1) (omega arith))
