-- The greedy groups: document 01, 'Greedy meshing'; greedy.rs lines 58 to 111. The walk picks the rectangles.
use Rattle.std.specs.Prelude.{List, [], ◌∷◌, map, ℕ, ◌+◌}
use Rattle.geometry.specs.declared.quad.UnorientedQuad.{UnorientedQuad}
use Rattle.geometry.specs.declared.face.OrientedBlockFace.{OrientedBlockFace}
use Rattle.voxels.specs.declared.extent.Extent.{Extent}
use Rattle.voxels.specs.Shape.{Field}
use Rattle.rules.specs.Group.{State, group}
use Rattle.rules.specs.Merger.{voxel_merger}

-- The greedy group of a face, with the tests made for it.
unfoldable pub greedy_group : Extent → Field → OrientedBlockFace → State
greedy_group inner v f = group f v inner (voxel_merger f v)

-- "Six groups again, each with its own cleared visited marks; the same face given twice gives two equal groups" (108 to 110).
unfoldable pub greedy_groups : Extent → Field → List OrientedBlockFace → List (List UnorientedQuad)
greedy_groups inner v faces = map (λ (f : OrientedBlockFace). (greedy_group inner v f).quads) faces

-- "the tests summed over the six faces"
unfoldable pub greedy_tests : Extent → Field → List OrientedBlockFace → ℕ
greedy_tests inner v [] = 0
greedy_tests inner v (f ∷ fs) = (greedy_group inner v f).tests + greedy_tests inner v fs
