-- To be read in this order, after the rules of meshing (crates/rules/specs).
-- The whole outcome of a call.
pub mod Greedy
-- Demand 3, of a call.
pub mod Call
-- Document 01's examples as calls.
pub mod Calls
-- For private contracts alone, file by file as the source:
pub mod Walks
pub mod Marks
pub mod Spans
pub mod Scans
