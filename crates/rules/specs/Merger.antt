-- How `VoxelMerger` picks a rectangle: document 01, 'Greedy meshing', "Width" and "Height"; merge_strategy.rs lines 50 to 140.
use Rattle.std.specs.Prelude.{Bool, true, false, ◌&&◌, List, ℕ, zero, suc, ◌+◌, ◌-◌, eqb}
use Rattle.geometry.specs.declared.quad.UnorientedQuad.{UnorientedQuad}
use Rattle.geometry.specs.declared.face.OrientedBlockFace.{OrientedBlockFace}
use Rattle.geometry.specs.Point.{Point, moved}
use Rattle.geometry.specs.Axes.{u_axis, v_axis}
use Rattle.voxels.specs.Voxel.{uniform}
use Rattle.voxels.specs.Shape.{Field}
use Rattle.rules.specs.Group.{passes, Pick, Choice}

-- What a walk got, and its tests, "the failing one included".
pub record Walked : Type 0 where
  pub got : ℕ
  pub tests : ℕ

-- A walk of two numbers.
abbrev pub walk : ℕ → ℕ → Walked
walk got tests = record { got = got; tests = tests }

-- A rectangle of three numbers.
abbrev pub pick : ℕ → ℕ → ℕ → Pick
pick width height tests = record { width = width; height = height; tests = tests }

-- The test of a voxel in a row walk: "testing each voxel, also its merge value against the first one's". "The merge value belongs to the same test" (123 to 132).
unfoldable pub follows : OrientedBlockFace → Field → List UnorientedQuad → Point → Point → Bool
follows f v qs first p = passes f v qs p && uniform (v first) (v p)

-- A walk: how many of a, next a, next (next a), .. pass before one fails, of at most so many, and the tests.
unfoldable pub walked : {A : Type 0} → (A → Bool) → (A → A) → A → ℕ → Walked
walked ok next a zero = record { got = 0; tests = 0 }
walked ok next a (suc most) =
    elim (ok a) [
      | false ↦ record { got = 0; tests = 1 }
      | true ↦ let rest : Walked = walked ok next (next a) most in record { got = 1 + rest.got; tests = 1 + rest.tests }
    ]

-- A walk over rows: how many rows of a width are whole, one after another from a on, of at most so many, and the tests of their walks.
unfoldable pub walked_rows : {A : Type 0} → (A → Walked) → ℕ → (A → A) → A → ℕ → Walked
walked_rows row width next a zero = record { got = 0; tests = 0 }
walked_rows row width next a (suc most) =
    elim (eqb (row a).got width) [
      | false ↦ record { got = 0; tests = (row a).tests }
      | true ↦ let rest : Walked = walked_rows row width next (next a) most in record { got = 1 + rest.got; tests = (row a).tests + rest.tests }
    ]

-- The row walk of at most so many voxels along +u from p on (108 to 139): "stop at the first failure or at the slice's edge"
unfoldable pub row_walk : OrientedBlockFace → Field → List UnorientedQuad → Point → Point → ℕ → Walked
row_walk f v qs first p most = walked (follows f v qs first) (moved (u_axis f) 1) p most

-- The walk of the rows along +v from p on, at most so many (83 to 101): "at most `width` voxels, by the same test; a whole row adds one, a failure ends it. Stop at the edge."
unfoldable pub rows_walk : OrientedBlockFace → Field → List UnorientedQuad → Point → ℕ → Point → ℕ → Walked
rows_walk f v qs first width p most = walked_rows (λ (q : Point). row_walk f v qs first q width) width (moved (v_axis f) 1) p most

-- The walk's rectangle (60 to 104): "Width: walk along +u from that voxel itself". "Height: starts at 1. Walk the next row along +v".
unfoldable pub voxel_merger : OrientedBlockFace → Field → Choice
voxel_merger f v qs p wide high =
    let w : Walked = row_walk f v qs p p wide in
    let h : Walked = rows_walk f v qs p w.got (moved (v_axis f) 1 p) (high - 1) in
    record { width = w.got; height = 1 + h.got; tests = w.tests + h.tests }
