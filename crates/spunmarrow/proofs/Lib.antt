-- Laws. A function's own proof stands in the folder named after it.
-- Of numbers that stand for a case.
pub mod Cases
-- Of six faces.
pub mod Six
-- Of the nine numbers of an answer.
pub mod Nine
-- Of what a mesher's call leaves.
pub mod Left
-- That every contract leaves one outcome.
pub mod Unique
