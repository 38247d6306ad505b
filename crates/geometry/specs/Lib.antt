-- What the crate promises, in document 01's words: document 01 is the customer's scope and rules. To be read in this order; axis.rs, quad.rs and face.rs are
-- block-mesh 0.2.0's, under src/geometry.
pub mod Refusal
pub mod Point
pub mod Axes
pub mod Quad
pub mod Checks
pub mod Face
pub mod Corners
pub mod Vertices
pub mod Textures
pub mod Answers
-- Words for lists, for whoever speaks of many:
pub mod Lists
-- What is shown for whoever draws a quad:
pub mod Statements
-- For private contracts alone:
pub mod Inner
