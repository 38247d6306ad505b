-- To be read in this order, after the rule of unit meshing (crates/rules/specs/Unit.antt).
-- The whole outcome of a call.
pub mod Unit
-- What a call leaves, for its reader.
pub mod Call
-- For private contracts alone: what the loops read, and what those over rows and slices ask for,
pub mod Ready
-- what is counted (src/count.rt),
pub mod Count
-- what is listed (src/list.rt),
pub mod List
-- and what stands before and between the two (src/lib.rt).
pub mod Kernel
