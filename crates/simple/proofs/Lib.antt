-- Laws. A function's own proof stands in the folder named after it.
-- Of what a voxel shows to its neighbour.
pub mod Neighbours
-- Of sums over indices, and how many quads are listed.
pub mod Totals
-- Of six numbers, one a face.
pub mod Sixes
-- Of loops that count.
pub mod Counting
-- Of rows as one run.
pub mod Flat
-- Of runs of quads, one for each face.
pub mod Runs
-- Of listing from six cursors.
pub mod Cursors
-- That no voxel of an accepted box is bad.
pub mod Soundness
-- Of a face's group, by indices.
pub mod Faces
-- From the loops to the groups.
pub mod Whole
-- From the entry to the whole outcome.
pub mod Outcome
-- That the public contract leaves one outcome.
pub mod Unique
-- What a call leaves.
pub mod Call
