-- Document 01's marked examples, E1 to E11, as one table: "Boxes cover the whole shape. Where one face is named, quads and tests are that face's. O7 is opaque, T7
-- translucent, merge value 7; unnamed voxels are empty. Quads are (x,y,z,w,h)." That every row holds is `table_holds` (proofs/Table.antt).
use Rattle.std.specs.Prelude.{Bool, false, List, [], ◌∷◌, ◌≡◌, ℕ, ◌+◌, ◌-◌, pos, replicate, set}
use Rattle.geometry.specs.declared.axis.Axis.{Axis}
use Rattle.geometry.specs.declared.axis.Axis.TheVariants.{X}
use Rattle.geometry.specs.declared.axis.SignedAxis.TheVariants.{NegX, PosX, NegY, PosY, NegZ, PosZ}
use Rattle.geometry.specs.declared.axis.SignedAxis.{SignedAxis}
use Rattle.geometry.specs.declared.quad.UnorientedQuad.{UnorientedQuad}
use Rattle.geometry.specs.declared.face.OrientedBlockFace.{OrientedBlockFace}
use Rattle.geometry.specs.declared.face.TexCoord.{TexCoord}
use Rattle.geometry.specs.Refusal.{accepted}
use Rattle.geometry.specs.Point.{Point, at}
use Rattle.geometry.specs.Face.{canonical_face, as_f32}
use Rattle.geometry.specs.Corners.{quad_corners}
use Rattle.geometry.specs.Textures.{quad_textures}
use Rattle.voxels.specs.declared.extent.Extent.{Extent}
use Rattle.voxels.specs.Shape.{size, index, field}
use Rattle.voxels.specs.Extent.{interior}
use Rattle.rules.specs.Unit.{unit_groups}
use Rattle.rules.specs.Greedy.{greedy_groups, greedy_tests}

-- ---- blocks

-- An opaque voxel of a merge value.
abbrev pub O : ℕ → ℕ
O m = 32_768 + m

-- A translucent one.
abbrev pub T : ℕ → ℕ
T m = 16_384 + m

-- A voxel in its place.
pub record Placed : Type 0 where
  pub point : Point
  pub voxel : ℕ

-- A voxel at three coordinates.
abbrev pub placed : ℕ → ℕ → ℕ → ℕ → Placed
placed x y z voxel = record { point = at x y z; voxel = voxel }

-- A block of a shape, empty but for some voxels.
unfoldable pub block : Point → List Placed → List ℕ
block shape [] = replicate (size shape) 0
block shape (p ∷ ps) = set (block shape ps) (index shape p.point) p.voxel

-- The interior of a box that covers the whole shape.
abbrev pub whole_interior : Point → Extent
whole_interior shape = interior (at 0 0 0) (at (shape.x - 1) (shape.y - 1) (shape.z - 1))

-- ---- examples

-- The quad of five numbers.
abbrev pub quad : ℕ → ℕ → ℕ → ℕ → ℕ → UnorientedQuad
quad x y z w h = record { minimum = at x y z; width = w; height = h }

-- A face by its signed axis: +X is `PosX`.
abbrev pub face : SignedAxis → OrientedBlockFace
face a = canonical_face a

-- The six canonical faces.
abbrev pub six_faces : List OrientedBlockFace
six_faces = face PosX ∷ face NegX ∷ face PosY ∷ face NegY ∷ face PosZ ∷ face NegZ ∷ []

-- An example: a shape, a point and its index; a block, some faces and each one's unit quads; greedy quads; the same with the tests summed; a face and a quad with its corners; and with its
-- texture pairs, for a flip axis and a flip of v.
pub data Example : Type 0 where
  indexed : Point → Point → ℕ → Example
  listed : Point → List Placed → List OrientedBlockFace → List (List Point) → Example
  meshed : Point → List Placed → List OrientedBlockFace → List (List UnorientedQuad) → Example
  tested : Point → List Placed → List OrientedBlockFace → List (List UnorientedQuad) → ℕ → Example
  cornered : OrientedBlockFace → UnorientedQuad → Point → Point → Point → Point → Example
  textured : OrientedBlockFace → UnorientedQuad → Axis → Bool → TexCoord → TexCoord → TexCoord → TexCoord → Example

-- The unit quads of each face, by the rule of unit meshing.
unfoldable pub minima_of : Point → List Placed → List OrientedBlockFace → List (List Point)
minima_of shape ps faces = unit_groups (whole_interior shape) (field shape (block shape ps)) faces

-- The quads of each face, by the rule of greedy meshing.
unfoldable pub quads_of : Point → List Placed → List OrientedBlockFace → List (List UnorientedQuad)
quads_of shape ps faces = greedy_groups (whole_interior shape) (field shape (block shape ps)) faces

-- The tests of some faces, summed.
unfoldable pub tests_of : Point → List Placed → List OrientedBlockFace → ℕ
tests_of shape ps faces = greedy_tests (whole_interior shape) (field shape (block shape ps)) faces

-- An example holds where the rules say what document 01 says.
unfoldable pub Holds : Example → Type 0
Holds (indexed shape p i) = index shape p ≡ i
Holds (listed shape ps faces groups) = minima_of shape ps faces ≡ groups
Holds (meshed shape ps faces groups) = quads_of shape ps faces ≡ groups
Holds (tested shape ps faces groups tests) = (quads_of shape ps faces ≡ groups) × (tests_of shape ps faces ≡ tests)
Holds (cornered f q a b c d) = quad_corners f q ≡ accepted (record { minu_minv = a; maxu_minv = b; minu_maxv = c; maxu_maxv = d })
Holds (textured f q axis flip a b c d) = quad_textures f axis flip q ≡ accepted (record { minu_minv = a; maxu_minv = b; minu_maxv = c; maxu_maxv = d })

-- A texture pair.
abbrev pub uv : ℕ → ℕ → TexCoord
uv a b = record { u = as_f32 (pos a); v = as_f32 (pos b) }

-- ---- the table

-- E1 to E11. E1, E7 and E8 stand here of unit meshing too, which lists the minimum of each.
unfoldable pub table : List Example
table =
    -- E1
    indexed (at 3 3 3) (at 1 1 1) 13 ∷
    tested (at 3 3 3) (placed 1 1 1 (O 7) ∷ []) six_faces (replicate 6 (quad 1 1 1 1 1 ∷ [])) 12 ∷
    listed (at 3 3 3) (placed 1 1 1 (O 7) ∷ []) six_faces (replicate 6 (at 1 1 1 ∷ [])) ∷
    -- E2
    tested (at 4 4 3) (placed 1 1 1 (O 7) ∷ []) (face PosZ ∷ []) ((quad 1 1 1 1 1 ∷ []) ∷ []) 7 ∷
    -- E3
    tested (at 4 4 3) (placed 1 1 1 (O 7) ∷ placed 2 1 1 (O 7) ∷ placed 1 2 1 (O 7) ∷ placed 2 2 1 (O 7) ∷ []) (face PosZ ∷ []) ((quad 1 1 1 2 2 ∷ []) ∷ []) 8 ∷
    -- E4
    tested (at 4 3 4) (placed 1 1 1 (O 7) ∷ placed 1 1 2 (O 7) ∷ placed 2 1 1 (O 8) ∷ placed 2 1 2 (O 8) ∷ []) (face PosY ∷ []) ((quad 1 1 1 2 1 ∷ quad 2 1 1 2 1 ∷ []) ∷ []) 9 ∷
    -- E5
    meshed (at 4 3 4) (placed 1 1 1 (O 7) ∷ placed 2 1 1 (O 7) ∷ placed 1 1 2 (O 8) ∷ placed 2 1 2 (O 8) ∷ []) (face PosY ∷ []) ((quad 1 1 1 1 2 ∷ quad 1 1 2 1 2 ∷ []) ∷ []) ∷
    -- E6
    tested (at 4 3 4) (placed 2 1 1 (O 7) ∷ placed 1 1 2 (O 7) ∷ placed 2 1 2 (O 7) ∷ []) (face PosY ∷ []) ((quad 2 1 1 2 1 ∷ quad 1 1 2 1 1 ∷ []) ∷ []) 8 ∷
    -- E7
    meshed (at 4 3 3) (placed 1 1 1 (T 7) ∷ placed 2 1 1 (T 7) ∷ []) (face PosX ∷ []) ((quad 2 1 1 1 1 ∷ []) ∷ []) ∷
    listed (at 4 3 3) (placed 1 1 1 (T 7) ∷ placed 2 1 1 (T 7) ∷ []) (face PosX ∷ []) ((at 2 1 1 ∷ []) ∷ []) ∷
    -- E8
    meshed (at 4 3 3) (placed 1 1 1 (O 7) ∷ placed 2 1 1 (T 7) ∷ []) (face PosX ∷ face NegX ∷ []) ((quad 1 1 1 1 1 ∷ quad 2 1 1 1 1 ∷ []) ∷ (quad 1 1 1 1 1 ∷ []) ∷ []) ∷
    listed (at 4 3 3) (placed 1 1 1 (O 7) ∷ placed 2 1 1 (T 7) ∷ []) (face PosX ∷ face NegX ∷ []) ((at 1 1 1 ∷ at 2 1 1 ∷ []) ∷ (at 1 1 1 ∷ []) ∷ []) ∷
    -- E9
    meshed (at 4 3 3) (placed 1 1 1 (O 7) ∷ placed 2 1 1 (T 7) ∷ []) (face PosZ ∷ []) ((quad 1 1 1 2 1 ∷ []) ∷ []) ∷
    -- E10, on +X and on -X
    cornered (face PosX) (quad 1 2 3 4 5) (at 2 2 3) (at 2 6 3) (at 2 2 8) (at 2 6 8) ∷
    cornered (face NegX) (quad 1 2 3 4 5) (at 1 2 3) (at 1 6 3) (at 1 2 8) (at 1 6 8) ∷
    -- E11
    textured (face PosX) (quad 1 2 3 4 5) X false (uv 4 0) (uv 0 0) (uv 4 5) (uv 0 5) ∷
    []
