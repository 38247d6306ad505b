-- `check_row` meets its contract: where the greatest voxel is not bad, none is.
use Rattle.std.proofs.Common.{sym}
use Rattle.voxels.proofs.Rows.{low_passes}
use Rattle.voxels.proofs.bounds.check_row.Goals as goal

pub returns-then-class-lt-BAD : goal.returns-then-class-lt-BAD
returns-then-class-lt-BAD c =
    let s = c.args in
    sym (low_passes s.voxels.now _ _ s.start.0 c.class.ensures c.if-class-lt-BAD.true c.greatest-most.ensures)
