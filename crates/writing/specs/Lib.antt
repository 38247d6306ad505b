-- What every writer of a mesh shares. To be read in this order.
-- A mesh that is handed in, and what is checked of it.
pub mod Handed
-- What a writer answers and leaves.
pub mod Written
-- What is shown of a mesh that passes.
pub mod Statements
-- Worked examples.
pub mod Examples
-- For private contracts, those of the writers too:
pub mod Left
