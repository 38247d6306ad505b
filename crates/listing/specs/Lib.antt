-- To be read in this order.
-- What laying groups into a buffer leaves.
pub mod Listing
-- The same item by item, as a mesher lists.
pub mod Pushed
-- What a mesher's call answers and leaves.
pub mod Outcome
-- What stands in a buffer, read back.
pub mod Cut
