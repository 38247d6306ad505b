-- To be read in this order.
pub mod Voxel
pub mod Shape
pub mod Loop
pub mod Extent
pub mod Visible
pub mod Checks
pub mod Answers
pub mod Statements
-- For private contracts alone: what an entry that passes leaves, and rows and slices by their indices.
pub mod Entered
pub mod Rows
