-- What the crate promises, in document 02's words: its first request, "Wavefront OBJ for the site planners". To be read in this order, after a mesh that is handed in (crates/writing/specs) and decimal numbers (crates/digits/specs).
-- The text of a mesh.
pub mod Text
-- The whole outcome of a call.
pub mod Obj
-- A reader of such texts.
pub mod Reader
-- What is shown of a text beside its bytes.
pub mod Statements
-- Worked examples.
pub mod Examples
-- For private contracts alone:
pub mod Writer
