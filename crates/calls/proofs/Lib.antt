-- Laws, and what is shown of the contracts themselves. A function's own proof stands in the folder named after it.
-- Of the numbers of a text.
pub mod Numbers
-- Of a permutation's number.
pub mod Orders
-- Of bytes that are written, and of the lines of a list.
pub mod Listed
-- What each public contract leaves open.
pub mod Unique
