-- Laws, and what is shown of the contracts themselves. A function's own proof stands in the folder named after it.
-- Of bytes that a writer puts into its output, and of bytes put into an output that is lent.
pub mod Writer
-- Of lists end to end.
pub mod Joined
-- Of how long a quad's lines are.
pub mod Measured
-- Of a quad's lines, and what geometry answers for it.
pub mod Quads
-- Of what geometry says of it.
pub mod Given
-- Of its lines as they are written.
pub mod Lines
-- Of a text's length.
pub mod Lengths
-- Of loops over the groups of a mesh, and over their quads.
pub mod Going
-- Of reading a text back.
pub mod ReadBack
-- The worked examples.
pub mod Examples
-- Of what every call leaves.
pub mod Outcome
-- That the public contract leaves one outcome.
pub mod Unique
