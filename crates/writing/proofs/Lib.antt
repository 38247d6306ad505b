-- Laws, and what is shown of the contracts themselves. A function's own proof stands in the folder named after it.
-- Of what is left of a mesh.
pub mod Rest
-- Of counts taken off a room.
pub mod Taking
-- Of checks asked of one quad after another.
pub mod Checking
-- Of the order of the checks.
pub mod Ordered
-- Of what a writer leaves.
pub mod Outcome
-- That every public contract leaves one outcome.
pub mod Unique
-- That what greedy meshing leaves passes.
pub mod Greedy
-- That the worked examples hold.
pub mod Examples
