-- What the crate promises, in document 02's words: its second request, "Saved meshes". To be read in this order, after a mesh that is handed in (crates/writing/specs).
-- Numbers in bytes.
pub mod Bytes
-- A form, what is saved in it, and face bytes.
pub mod Form
-- The bytes of a mesh.
pub mod Layout
-- What bytes are read as.
pub mod Read
-- The whole outcomes of the two calls.
pub mod Saved
-- Where in a file a refusal stands.
pub mod Where
-- What every writer leaves.
pub mod Leaves
-- What is shown beside.
pub mod Statements
-- Worked examples.
pub mod Examples
-- For private contracts alone:
pub mod Private
