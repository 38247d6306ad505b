-- Vertex numbers: document 01, 'Corners and vertex numbers'; face.rs lines 93 to 102 and 162 to 171.
use Rattle.std.specs.Prelude.{Bool, true, false, ℕ, ◌+◌, ◌*ℤ◌}
use Rattle.geometry.specs.declared.face.OrientedBlockFace.{OrientedBlockFace}
use Rattle.geometry.specs.declared.face.VertexIndex.{VertexIndex}
use Rattle.geometry.specs.declared.face.QuadIndices.{QuadIndices}
use Rattle.geometry.specs.Axes.{positive, permutation_sign}
use Rattle.geometry.specs.Checks.{index_checks}
use Rattle.geometry.specs.Refusal.{Answer, answer}

-- A vertex number.
abbrev pub vertex : ℕ → VertexIndex
vertex k = record { 0 = k }

-- Six vertex numbers in order.
abbrev pub six_indices : ℕ → ℕ → ℕ → ℕ → ℕ → ℕ → QuadIndices
six_indices a b c d e f = record { 0 = vertex a; 1 = vertex b; 2 = vertex c; 3 = vertex d; 4 = vertex e; 5 = vertex f }

-- "s, s+1, s+2, s+1, s+3, s+2; else s, s+2, s+1, s+1, s+2, s+3" (face.rs 165 to 171).
abbrev pub indices : Bool → ℕ → QuadIndices
indices true s = six_indices s (s + 1) (s + 2) (s + 1) (s + 3) (s + 2)
indices false s = six_indices s (s + 2) (s + 1) (s + 1) (s + 2) (s + 3)

-- "Indices from s: if sign times permutation sign is positive" the first, else the second (face.rs 100 to 102).
unfoldable pub quad_indices : OrientedBlockFace → VertexIndex → Answer QuadIndices
quad_indices f s =
    answer (index_checks f s)
    (indices (positive (f.n_sign *ℤ permutation_sign f.permutation)) s.0)
