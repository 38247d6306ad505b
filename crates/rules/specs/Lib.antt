-- What has to be believed about meshing: document 01's rules over a field of voxels, in coordinates, and what is shown of them. No code is spoken of here.
-- Below these stand a voxel's class, a block's points and which faces are visible (crates/voxels/specs, in the order of its Lib.antt), and faces, quads and corners (crates/geometry/specs).
-- To be read in this order.

-- Unit meshing: the group of a face, and what holds of it.
pub mod Unit
-- Greedy meshing: the order of the points, what a quad contains, the test of a voxel, and the group of a face, whatever picks its rectangles.
pub mod Group
-- What picks them: `VoxelMerger`'s walk.
pub mod Merger
-- The greedy groups, and their tests.
pub mod Greedy
-- Demand 3: cover, areas and tests.
pub mod Demand
-- What demand 3 rests on: any choice that is made safe, from any consistent start.
pub mod Choices
-- That what is listed can be drawn, and what its corners enclose.
pub mod Drawn
-- Document 01's marked examples.
pub mod Table
