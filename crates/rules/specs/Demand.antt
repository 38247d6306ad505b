-- Demand 3, of the group of one face: "every interior voxel whose face is visible lies in exactly one quad of that face's group, no other voxel lies in any of them, and their
-- areas sum to the number of visible faces. The voxel tests the written rule makes for a face number at most the interior voxels plus three times the visible faces". That every
-- greedy group meets it is `demand_holds` (proofs/Demand.antt).
--
-- Cover and areas rest neither on what picks the rectangles nor, beyond its being consistent, on what a group begins with: Choices.antt.
use Rattle.std.specs.Prelude.{true, ◌&&◌, List, [], ◌∷◌, ◌≡◌, ℕ, ◌+◌, ◌*◌, ◌≤◌, length}
use Rattle.geometry.specs.declared.quad.UnorientedQuad.{UnorientedQuad}
use Rattle.geometry.specs.declared.face.OrientedBlockFace.{OrientedBlockFace}
use Rattle.geometry.specs.Point.{Point, along}
use Rattle.geometry.specs.Axes.{u_axis, v_axis, bit}
use Rattle.geometry.specs.Lists.{how_many}
use Rattle.voxels.specs.Voxel.{uniform}
use Rattle.voxels.specs.Shape.{Field}
use Rattle.voxels.specs.Extent.{Inside, scan, inside}
use Rattle.voxels.specs.Visible.{visible}
use Rattle.rules.specs.Group.{contains, State}
use Rattle.voxels.specs.declared.extent.Extent.{Extent}

-- ---- what is counted

-- How many quads of a list contain a point.
unfoldable pub covers : OrientedBlockFace → List UnorientedQuad → Point → ℕ
covers f qs p = how_many (λ (q : UnorientedQuad). contains f q p) qs

-- A quad's area.
abbrev pub area : UnorientedQuad → ℕ
area q = q.width * q.height

-- What a measure gives for each of a list, summed.
unfoldable pub sum_of : {A : Type 0} → (A → ℕ) → List A → ℕ
sum_of measure [] = 0
sum_of measure (a ∷ l) = measure a + sum_of measure l

-- How many points an extent has; of the interior, "the interior voxels".
abbrev pub points : Extent → ℕ
points inner = length (scan inner)

-- How many of them have a visible face: "the visible faces".
abbrev pub visible_points : OrientedBlockFace → Field → Extent → ℕ
visible_points f v inner = how_many (visible f v) (scan inner)

-- "the interior voxels plus three times the visible faces"
abbrev pub most_tests : OrientedBlockFace → Field → Extent → ℕ
most_tests f v inner = points inner + 3 * visible_points f v inner

-- ---- the three statements

-- Cover: every point, of any three numbers, lies in exactly one quad where it is interior and its face is visible, and else in none.
abbrev pub Cover : OrientedBlockFace → Field → Extent → List UnorientedQuad → Type 0
Cover f v inner quads = (p : Point) → covers f quads p ≡ bit (inside inner p && visible f v p)

-- Areas: width times height, summed over the quads, is the number of visible faces.
abbrev pub Areas : OrientedBlockFace → Field → Extent → List UnorientedQuad → Type 0
Areas f v inner quads = sum_of area quads ≡ visible_points f v inner

-- Tests: at most the interior voxels plus three times the visible faces.
abbrev pub Tests : OrientedBlockFace → Field → Extent → ℕ → Type 0
Tests f v inner tests = tests ≤ most_tests f v inner

-- Demand 3: a group, with the tests made for it, has all three.
pub record DemandHolds (f : OrientedBlockFace) (v : Field) (inner : Extent) (group : State) : Type 0 where
  pub cover : Cover f v inner group.quads
  pub areas : Areas f v inner group.quads
  pub tests : Tests f v inner group.tests

-- ---- each quad of a group

-- A quad is at least 1 by 1 and lies within a slice of the interior.
pub record InSlice (f : OrientedBlockFace) (inner : Extent) (q : UnorientedQuad) : Type 0 where
  pub minimum_inside : Inside inner q.minimum
  pub some_width : 1 ≤ q.width
  pub some_height : 1 ≤ q.height
  pub within_u : along (u_axis f) q.minimum + q.width ≤ along (u_axis f) inner.bound
  pub within_v : along (v_axis f) q.minimum + q.height ≤ along (v_axis f) inner.bound

-- A quad is uniform: every voxel of it may share a quad with its first.
abbrev pub Uniform : OrientedBlockFace → Field → UnorientedQuad → Type 0
Uniform f v q = (p : Point) → contains f q p ≡ true → uniform (v q.minimum) (v p) ≡ true

-- ---- quads that a group may begin with

-- They are consistent: every point lies in at most one of them, and in none unless it is interior and its face is visible.
abbrev pub Consistent : OrientedBlockFace → Field → Extent → List UnorientedQuad → Type 0
Consistent f v inner quads = (p : Point) → covers f quads p ≤ bit (inside inner p && visible f v p)
