-- `check_voxel_count` meets its contract.
use Rattle.geometry.specs.Refusal.{answer}
use Rattle.voxels.specs.Shape.{size}
use Rattle.voxels.proofs.bounds.check_voxel_count.Goals as goal

pub returns-then-fewer : goal.returns-then-fewer
unfolding answer size
returns-then-fewer c = rw (c.at.ensures, ← c.fewer.ensures, c.if-fewer.true)

pub returns : goal.returns
unfolding answer size
returns c = rw (← c.fewer.ensures, c.if-fewer.false)
