-- The numbers that C calls hand in, and what they stand for.
pub mod Numbers
-- The calls of the drawing code.
pub mod Draw
-- Six faces from twelve numbers.
pub mod Faces
-- The meshers' calls.
pub mod Mesh
-- The writers' calls.
pub mod Write
