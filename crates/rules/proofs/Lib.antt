-- Laws of the rules. Nothing here speaks of code.
-- Of unit groups.
pub mod Unit
-- Of sums over lists, and how many points an extent has.
pub mod Counts
-- Of the points that a sweep goes through.
pub mod Sweep
-- Of steps along a face's u and v.
pub mod Spread
-- Of what a quad contains.
pub mod Contains
-- Of one admissible rectangle, laid.
pub mod Laid
-- Of a group that any choice lays, from any start.
pub mod Covers
-- Of areas, which follow from cover.
pub mod Areas
-- Of walks.
pub mod Walks
-- Of the rectangles that the walk picks.
pub mod Picks
-- Of the tests that a group takes.
pub mod Bound
-- Demand 3.
pub mod Demand
-- That quads can be drawn, and what their corners enclose.
pub mod Drawn
-- That document 01's marked examples hold of the rules.
pub mod Table
