-- What a call of unit meshing leaves, for its reader: what stands in the output at exit, cut into groups by the answer's counts. That every call which answers 0 has it is `call_holds`, and what refusal 9 leaves is
-- `nine_holds` (proofs/Call.antt); both are about the contract of `visible_block_faces` itself.
use Rattle.std.specs.Prelude.{List, ◌≡◌, ℕ, length, get_or, take}
use Rattle.geometry.specs.declared.face.OrientedBlockFace.{OrientedBlockFace}
use Rattle.geometry.specs.Point.{Point, at}
use Rattle.geometry.specs.Statements.{unit_quad_at, Drawn}
use Rattle.voxels.specs.declared.extent.Extent.{Extent}
use Rattle.voxels.specs.Shape.{Field, field}
use Rattle.voxels.specs.Extent.{interior}
use Rattle.geometry.specs.Lists.{Each}
use Rattle.listing.specs.Outcome.{MeshAnswer}
use Rattle.listing.specs.Listing.{joined, capacity}
use Rattle.listing.specs.Cut.{items_in, groups_in, Matched}
use Rattle.rules.specs.Unit.{unit_groups, UnitHolds}
use Rattle.simple.specs.Unit.{unit_numbers}

-- The unit quad of an output's first numbers: its minimum's x, y, z. (`get_or`'s last argument is what stands past the end of the list.)
unfoldable pub minimum_from : List ℕ → Point
minimum_from out = at (get_or out 0 0) (get_or out 1 0) (get_or out 2 0)

-- What the group of a face has: every visible interior voxel stands in it once, and no other, in scan order, and each can be drawn on that face.
pub record UnitMeshed (v : Field) (inner : Extent) (f : OrientedBlockFace) (group : List Point) : Type 0 where
  pub holds : UnitHolds v inner f group
  pub drawn : Each (λ (p : Point). Drawn f (unit_quad_at p)) group

-- A call that answers 0: of a block, a box, six faces, the answer and the output at exit, the groups that the six counts cut out of the output are one a face, and each is meshed.
abbrev pub CallHolds : List ℕ → Point → Point → Point → List OrientedBlockFace → MeshAnswer → List ℕ → Type 0
CallHolds voxels shape min max faces answer out =
    Matched (UnitMeshed (field shape voxels) (interior min max)) faces (groups_in unit_numbers minimum_from answer.counts out)

-- A call that is refused by 9.
pub record NineHolds (voxels : List ℕ) (shape min max : Point) (faces : List OrientedBlockFace) (answer : MeshAnswer) (out : List ℕ) : Type 0 where
  -- The place is the capacity of the output,
  pub place : answer.place ≡ capacity unit_numbers (length out)
  -- and so many quads stand in it: "the first quads of the listing up to its capacity".
  pub first : items_in unit_numbers minimum_from answer.place out ≡ take answer.place (joined (unit_groups (interior min max) (field shape voxels) faces))
