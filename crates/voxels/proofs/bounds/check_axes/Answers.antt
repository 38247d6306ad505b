-- `check_axes` meets its contract: the first axis that applies is given.
use Rattle.geometry.specs.Refusal.{answer}
use Rattle.voxels.proofs.bounds.check_axes.Goals as goal

pub returns-then-x : goal.returns-then-x
unfolding answer
returns-then-x c = rw c.at.ensures (simp c.if-x.true)

pub returns-then-y : goal.returns-then-y
unfolding answer
returns-then-y c = rw c.at-then-y.ensures (simp (c.if-x.false, c.if-y.true))

pub returns-then-z : goal.returns-then-z
unfolding answer
returns-then-z c = rw c.at-then-z.ensures (simp (c.if-x.false, c.if-y.false, c.if-z.true))

pub returns : goal.returns
unfolding answer
returns c = simp (c.if-x.false, c.if-y.false, c.if-z.false)
