-- `greatest` meets its contract: no voxel looked at is greater than the greatest so far.
use Rattle.std.proofs.Common.{◌≡◌, ℕ, ◌+◌, ◌-◌, arith}
use Rattle.voxels.proofs.Rows.{most_on}
use Rattle.voxels.proofs.bounds.greatest.Goals as goal

pub loop-i-preserved : goal.loop-i-preserved
loop-i-preserved c =
    let s = c.args in
    let l = c.loop-i in
    let k : ℕ = l.i - s.start.0 in
    let there : s.start.0 + k ≡ l.i = omega arith in
    λ j h. most_on s.voxels.now s.start.0 k l.most _ l.invariant (omega arith) (rw there (omega arith)) j (omega arith)

pub returns : goal.returns
returns c = λ j l. c.loop-i.invariant j (omega arith)
