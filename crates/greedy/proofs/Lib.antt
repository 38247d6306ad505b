-- Laws, and what is shown of the contract itself. A function's own proof stands in the folder named after it.
-- Of a loop that changes a state.
pub mod Steps
-- Of walks, and the tests that they make.
pub mod Walks
-- Of the rectangle that the walk picks, by indices.
pub mod Rectangles
-- Of a face's scan, by indices.
pub mod Scanning
-- Of voxels that need no mesh, in a loop that passes them.
pub mod Passing
-- Of visited bytes, by index,
pub mod Marks
-- and cleared.
pub mod Cleared
-- Of what the bytes tell, and the walk in coordinates.
pub mod Told
-- Of the scan of a face, by indices and by the rule.
pub mod Sweeps
-- Of an accepted call's face.
pub mod Faces
-- Of a loop over the faces.
pub mod Six
-- Of the whole outcome.
pub mod Outcome
-- That the public contract leaves one outcome.
pub mod Unique
-- Demand 3, of the call.
pub mod Call
-- That document 01's examples hold as calls.
pub mod Calls
