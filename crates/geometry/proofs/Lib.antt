-- Laws, and what is shown of the contracts themselves. A function's own proof stands in the folder named after it.
-- Of tests.
pub mod Tests
-- Of refusals, and of an order of them.
pub mod Refusals
-- Of orders asked part by part.
pub mod Orders
-- From a check's answer to a call's.
pub mod Answers
-- Of lists.
pub mod Lists
-- Of signs and their bits.
pub mod Signs
-- Of permutations and signed axes.
pub mod Axes
-- Of steps along a face's axes.
pub mod Frame
-- Of the quad limits, and what checks that have passed tell.
pub mod Limits
-- Of corners.
pub mod Corners
-- Of normals and flips.
pub mod Faces
-- Of the floats that are made.
pub mod Floats
-- What an accepted call is known to give.
pub mod Accepted
-- That a quad within the limits can be drawn.
pub mod Drawn
-- What it means that a contract leaves one outcome.
pub mod One
-- That each public contract does.
pub mod Unique
