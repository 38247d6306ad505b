-- Laws, and what is shown of the contracts themselves. A function's own proof stands in the folder named after it.
-- Of decimal numbers.
pub mod Digits
-- Of digits written into a scratch.
pub mod Written
-- Of digits in lots.
pub mod InLots
-- The worked examples.
pub mod Examples
-- That each public contract leaves one outcome.
pub mod Unique
