-- To be read in this order.
-- The numbers of a text.
pub mod Text
-- What they stand for.
pub mod Given
-- What is written of what comes out.
pub mod Show
-- The lines of a list, and what is written of each.
pub mod Lines
