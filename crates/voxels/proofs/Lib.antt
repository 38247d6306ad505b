-- Laws, and what is shown of the contracts themselves. A function's own proof stands in the folder named after it.
-- Of products and remainders.
pub mod Numbers
-- Of voxels that show their faces.
pub mod Voxels
-- Of loops.
pub mod Loops
-- Of places in a shape: index and stride.
pub mod Places
-- Of checks asked by a loop.
pub mod Asked
-- Of scan order, and loops over it.
pub mod Scan
-- Of rows, and the greatest voxel of one.
pub mod Rows
-- What checks 1 to 5 leave.
pub mod Held
-- What check 6 leaves.
pub mod Faces
-- Of steps to a neighbour.
pub mod Steps
-- Of an accepted entry.
pub mod Entered
-- What refusal 8 tells its reader.
pub mod Lowest
-- Of how many times a point stands in a list.
pub mod Times
-- That each public contract leaves one outcome.
pub mod Unique
-- What an entry has passed, part by part.
pub mod Passed
-- The numbers that an entry may give.
pub mod Numbered
