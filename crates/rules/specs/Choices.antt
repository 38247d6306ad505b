-- Any choice, any start. Cover and areas of demand 3 rest neither on what picks the rectangles nor, beyond its being `Consistent`, on what a group begins with: they hold of any choice made safe by
-- `admit`, laid on from any such start (`admitted_cover`, `admitted_areas`, proofs/Demand.antt), and `VoxelMerger`'s walk needs no making safe (`walk_admitted`).
use Rattle.std.specs.Prelude.{Bool, true, false, ◌&&◌, List, [], ◌∷◌, ◌≡◌, ℕ, ◌≤◌, leb}
use Rattle.geometry.specs.declared.quad.UnorientedQuad.{UnorientedQuad}
use Rattle.geometry.specs.declared.face.OrientedBlockFace.{OrientedBlockFace}
use Rattle.geometry.specs.Point.{Point, moved}
use Rattle.geometry.specs.Axes.{n_axis, u_axis, v_axis}
use Rattle.voxels.specs.Shape.{Field}
use Rattle.voxels.specs.Extent.{scan}
use Rattle.rules.specs.Group.{contains, passes, Pick, quad_of, Choice}
use Rattle.rules.specs.Merger.{pick}
use Rattle.voxels.specs.declared.extent.Extent.{Extent}

-- A pick at a point, with so many voxels of room along u and along v, is admissible: at least 1 by 1, within the room, and every voxel of it passes the test.
pub record Admissible (f : OrientedBlockFace) (v : Field) (qs : List UnorientedQuad) (p : Point) (wide high : ℕ) (c : Pick) : Type 0 where
  pub some_width : 1 ≤ c.width
  pub some_height : 1 ≤ c.height
  pub width_fits : c.width ≤ wide
  pub height_fits : c.height ≤ high
  pub passing : (x : Point) → contains f (quad_of p c) x ≡ true → passes f v qs x ≡ true

-- The voxels of a quad as an extent: one deep on n, as wide on u and as high on v as the quad (proofs/Contains.antt, `contains_inside`).
unfoldable pub voxels_of : OrientedBlockFace → UnorientedQuad → Extent
voxels_of f q = record { minimum = q.minimum; bound = moved (n_axis f) 1 (moved (u_axis f) q.width (moved (v_axis f) q.height q.minimum)) }

-- Whether all of a list pass a test.
unfoldable pub all_pass : {A : Type 0} → (A → Bool) → List A → Bool
all_pass test [] = true
all_pass test (a ∷ l) = test a && all_pass test l

-- Whether a pick is admissible (proofs/Laid.antt, `admissible_true` and `admissible_yes`).
unfoldable pub admissible : OrientedBlockFace → Field → List UnorientedQuad → Point → ℕ → ℕ → Pick → Bool
admissible f v qs p wide high c =
    ((leb 1 c.width && leb 1 c.height) && (leb c.width wide && leb c.height high))
    && all_pass (passes f v qs) (scan (voxels_of f (quad_of p c)))

-- A choice made safe: an admissible pick is taken as it is, and any other as 1 by 1. The tests stay those that the choice made.
unfoldable pub admit : OrientedBlockFace → Field → Choice → Choice
admit f v choice qs p wide high =
    let c : Pick = choice qs p wide high in
    elim (admissible f v qs p wide high c) [ true ↦ c | false ↦ pick 1 1 c.tests ]

-- A choice that needs no making safe: at a point that passes, with room, each of its picks is admissible.
abbrev pub Sound : OrientedBlockFace → Field → Choice → Type 0
Sound f v choice =
    (qs : List UnorientedQuad) (p : Point) (wide high : ℕ) → passes f v qs p ≡ true → 1 ≤ wide → 1 ≤ high → Admissible f v qs p wide high (choice qs p wide high)
