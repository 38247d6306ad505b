-- Laws, and what is shown of the contracts themselves. A function's own proof stands in the folder named after it.
-- Of items written into a buffer.
pub mod Pushed
-- Of groups listed one after another.
pub mod Groups
-- Of a call's outcome.
pub mod Outcome
-- Of what is read back from a buffer.
pub mod Cut
-- That each public contract leaves one outcome.
pub mod Unique
