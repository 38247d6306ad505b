-- Laws, and what is shown of the contracts themselves. A function's own proof stands in the folder named after it.
-- Of checks and those after them,
pub mod Checking
-- of the numbers that they give,
pub mod Numbered
-- and of what a writer leaves after them.
pub mod Writers
-- Of numbers in bytes.
pub mod Numbers
-- Of items one after another.
pub mod Items
-- Of one section.
pub mod Section
-- Of the quads of sections.
pub mod Groups
-- Of face bytes,
pub mod FaceBytes
-- and of a file's six, one after another.
pub mod Codes
-- Of sections from a byte on.
pub mod Places
-- Of an output that is filled,
pub mod Filling
-- and of what is left to write.
pub mod Writing
-- Of the way to a byte of a file.
pub mod Reaching
-- Of pieces of a list,
pub mod Pieces
-- of check 12 by a quad's numbers where they stand,
pub mod Limits
-- and of a walk over sections.
pub mod Walking
-- Of what a reader asks of the quads,
pub mod Asking
-- of what it takes,
pub mod Taking
-- and of a file that passes.
pub mod Reading
-- That each undoes the other.
pub mod Roundtrip
-- That a file says where it ends.
pub mod Cut
-- Of how long a file is.
pub mod Size
-- Of a mesh that is handed in.
pub mod Handed
-- Of a mesh that can be saved, in the words of the limits.
pub mod Savable
-- That a refusal's byte is where it stands.
pub mod Standing
-- The worked examples.
pub mod Examples
-- Of what every call of the reader leaves.
pub mod Outcome
-- Of what every call of the writer leaves, and of calls one after the other.
pub mod Calls
-- That every public contract leaves one outcome.
pub mod Unique
