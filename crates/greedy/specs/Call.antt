-- Demand 3, of a call: what stands in the output at exit, cut into groups by the answer's counts. That every call which answers 0 has it is `call_holds`, and what refusal 9 leaves is
-- `nine_holds` (proofs/Call.antt); both are about the contract of `greedy_quads` itself.
use Rattle.std.specs.Prelude.{List, ◌≡◌, ℕ, length, get_or, take}
use Rattle.geometry.specs.declared.quad.UnorientedQuad.{UnorientedQuad}
use Rattle.geometry.specs.declared.face.OrientedBlockFace.{OrientedBlockFace}
use Rattle.geometry.specs.Point.{Point, at}
use Rattle.geometry.specs.Statements.{Drawn}
use Rattle.voxels.specs.declared.extent.Extent.{Extent}
use Rattle.voxels.specs.Shape.{Field, field}
use Rattle.voxels.specs.Extent.{interior}
use Rattle.geometry.specs.Lists.{Each}
use Rattle.listing.specs.Listing.{joined, capacity}
use Rattle.listing.specs.Cut.{items_in, groups_in, Matched, first_of}
use Rattle.rules.specs.Greedy.{greedy_group, greedy_groups, greedy_tests}
use Rattle.rules.specs.Demand.{Cover, Areas, Tests, Uniform, Consistent}
use Rattle.greedy.specs.Greedy.{quad_numbers, GreedyAnswer}

-- The quad of an output's first numbers: minimum x, y, z, width, height. (`get_or`'s last argument is what stands past the end of the list.)
unfoldable pub quad_from : List ℕ → UnorientedQuad
quad_from out = record { minimum = at (get_or out 0 0) (get_or out 1 0) (get_or out 2 0); width = get_or out 3 0; height = get_or out 4 0 }

-- ---- a call that answers 0

-- What the group of a face has: "every interior voxel whose face is visible lies in exactly one quad of that face's group, no other voxel lies in any of them, and their areas sum to the number of
-- visible faces"; the voxels of each quad are uniform; and every quad is within check 12's limits on its face, so that all that is asked of it for drawing is given.
pub record GroupMeshed (v : Field) (inner : Extent) (f : OrientedBlockFace) (quads : List UnorientedQuad) : Type 0 where
  pub cover : Cover f v inner quads
  pub areas : Areas f v inner quads
  pub uniform : Each (Uniform f v) quads
  pub drawn : Each (Drawn f) quads

-- The tests that the rule makes for a face "number at most the interior voxels plus three times the visible faces".
abbrev pub TestsBounded : Field → Extent → OrientedBlockFace → Type 0
TestsBounded v inner f = Tests f v inner (greedy_group inner v f).tests

-- Of a block, a box, six faces, the answer and the output at exit.
pub record CallHolds (voxels : List ℕ) (shape min max : Point) (faces : List OrientedBlockFace) (answer : GreedyAnswer) (out : List ℕ) : Type 0 where
  -- The groups that the six counts cut out of the output are one a face, and each is meshed.
  pub groups : Matched (GroupMeshed (field shape voxels) (interior min max)) faces (groups_in quad_numbers quad_from answer.mesh.counts out)
  -- The tests are those that the rule makes, summed over the six faces,
  pub tests : answer.tests ≡ greedy_tests (interior min max) (field shape voxels) faces
  -- and for each face they are within their bound.
  pub bounds : Each (TestsBounded (field shape voxels) (interior min max)) faces

-- ---- a call that is refused by 9

-- Part of a face's group: its quads are disjoint and show only visible voxels.
abbrev pub PartMeshed : Field → Extent → OrientedBlockFace → List UnorientedQuad → Type 0
PartMeshed v inner f quads = Consistent f v inner quads

-- Of a block, a box, six faces, the answer and the output at exit, as `CallHolds` is.
pub record NineHolds (voxels : List ℕ) (shape min max : Point) (faces : List OrientedBlockFace) (answer : GreedyAnswer) (out : List ℕ) : Type 0 where
  -- The place is the capacity of the output,
  pub place : answer.mesh.place ≡ capacity quad_numbers (length out)
  -- and so many quads stand in it: "the first quads of the listing up to its capacity",
  pub first : items_in quad_numbers quad_from answer.mesh.place out ≡ take answer.mesh.place (joined (greedy_groups (interior min max) (field shape voxels) faces))
  -- which are the first of each group,
  pub parts : items_in quad_numbers quad_from answer.mesh.place out ≡ joined (first_of answer.mesh.place (greedy_groups (interior min max) (field shape voxels) faces))
  -- and each such part is disjoint and visible.
  pub disjoint : Matched (PartMeshed (field shape voxels) (interior min max)) faces (first_of answer.mesh.place (greedy_groups (interior min max) (field shape voxels) faces))
