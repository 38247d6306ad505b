-- The greedy group of one face, whatever picks the rectangles: document 01, 'Greedy meshing'; greedy.rs lines 113 to 222 and 224 to 250. The rules are in coordinates, over a field, and
-- a point is visited where a quad of the group contains it.
use Rattle.std.specs.Prelude.{Bool, true, false, not, ◌&&◌, ◌||◌, List, [], ◌∷◌, ◌++◌, ℕ, ◌+◌, ◌-◌, eqb, leb, ltb}
use Rattle.geometry.specs.declared.axis.Axis.{Axis}
use Rattle.geometry.specs.declared.quad.UnorientedQuad.{UnorientedQuad}
use Rattle.geometry.specs.declared.face.OrientedBlockFace.{OrientedBlockFace}
use Rattle.geometry.specs.Point.{Point, along, put}
use Rattle.geometry.specs.Axes.{n_axis, u_axis, v_axis}
use Rattle.voxels.specs.declared.extent.Extent.{Extent}
use Rattle.voxels.specs.Shape.{Field}
use Rattle.voxels.specs.Extent.{up_to, scan}
use Rattle.voxels.specs.Visible.{visible}

-- ---- the order of the points

-- The slice of an extent at k on an axis: one voxel deep there (141 to 147 and 220).
unfoldable pub slice_at : Axis → Extent → ℕ → Extent
slice_at a e k = record { minimum = put a k e.minimum; bound = put a (k + 1) e.bound }

-- "Slices go from low n to high n. In a slice, in scan order" (164 to 169): all points of the extent.
unfoldable pub sweep : Axis → Extent → List Point
sweep a e = up_to (along a e.minimum) (along a e.bound) (λ (k : ℕ). scan (slice_at a e k))

-- ---- quads and what they contain

-- Whether a number is one of the n from a on.
unfoldable pub among : ℕ → ℕ → ℕ → Bool
among a n k = leb a k && ltb k (a + n)

-- Whether a quad of this face contains a point: "width (along u), height (along v)", in the slice of its minimum (206 to 210).
unfoldable pub contains : OrientedBlockFace → UnorientedQuad → Point → Bool
contains f q p =
    eqb (along (n_axis f) p) (along (n_axis f) q.minimum)
    && among (along (u_axis f) q.minimum) q.width (along (u_axis f) p)
    && among (along (v_axis f) q.minimum) q.height (along (v_axis f) p)

-- Visited: a quad that the group already has contains the point.
unfoldable pub visited : OrientedBlockFace → List UnorientedQuad → Point → Bool
visited f [] p = false
visited f (q ∷ qs) p = contains f q p || visited f qs p

-- ---- the test of a voxel

-- "each voxel is tested: not empty, not visited, face visible" (236 to 249). An empty voxel's face is not visible.
unfoldable pub passes : OrientedBlockFace → Field → List UnorientedQuad → Point → Bool
passes f v qs p = not (visited f qs p) && visible f v p

-- ---- what picks a rectangle

-- A rectangle's width and height, and the tests that picking it took.
pub record Pick : Type 0 where
  pub width : ℕ
  pub height : ℕ
  pub tests : ℕ

-- The quad that a pick at a point gives.
abbrev pub quad_of : Point → Pick → UnorientedQuad
quad_of p c = record { minimum = p; width = c.width; height = c.height }

-- What picks one, the Rust's `MergeStrategy` (merge_strategy.rs 9 to 41): from the quads that the group already has, at a point that passed the test, with so many voxels of
-- room along u and so many along v.
abbrev pub Choice : Type 0
Choice = List UnorientedQuad → Point → ℕ → ℕ → Pick

-- The room along u, the point's own voxel among it, up to "the slice's edge" (165, 166 and 187).
abbrev pub room_u : OrientedBlockFace → Extent → Point → ℕ
room_u f e p = along (u_axis f) e.bound - along (u_axis f) p

-- The room along v (165, 167 and 188).
abbrev pub room_v : OrientedBlockFace → Extent → Point → ℕ
room_v f e p = along (v_axis f) e.bound - along (v_axis f) p

-- ---- the group

-- A group so far: its quads, and the tests made for it.
pub record State : Type 0 where
  pub quads : List UnorientedQuad
  pub tests : ℕ

-- A voxel is scanned (169 to 217): one test, and where it passes a rectangle is picked, marked and written.
unfoldable pub scanned : OrientedBlockFace → Field → Extent → Choice → State → Point → State
scanned f v e choice s p =
    elim (passes f v s.quads p) [
      | false ↦ record { quads = s.quads; tests = s.tests + 1 }
      | true ↦
          let c : Pick = choice s.quads p (room_u f e p) (room_v f e p) in
          record { quads = s.quads ++ (quad_of p c ∷ []); tests = s.tests + 1 + c.tests }
    ]

-- Points are scanned one after another.
unfoldable pub swept : OrientedBlockFace → Field → Extent → Choice → State → List Point → State
swept f v e choice s [] = s
swept f v e choice s (p ∷ ps) = swept f v e choice (scanned f v e choice s p) ps

-- The group of a face over an interior, laid on from a start: all interior points are scanned.
abbrev pub group_from : OrientedBlockFace → Field → Extent → Choice → State → State
group_from f v inner choice s = swept f v inner choice s (sweep (n_axis f) inner)

-- No quads and no tests: "each with its own cleared visited marks" (125).
abbrev pub fresh : State
fresh = record { quads = []; tests = 0 }

-- The group of a face over an interior.
unfoldable pub group : OrientedBlockFace → Field → Extent → Choice → State
group f v inner choice = group_from f v inner choice fresh
