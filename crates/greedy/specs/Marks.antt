-- For src/visited.rt: the visited bytes, set by indices. That a byte at a point's index tells 'visited' is `tells_more` (proofs/Told.antt).
use Rattle.std.specs.Prelude.{List, ℕ, ◌+◌, ◌*◌, ◌≤◌, ◌<◌, set}
use Rattle.voxels.specs.Entered.{most_voxels}
use Rattle.voxels.specs.Loop.{steps}

-- What a loop by a coordinate and an index asks for: something at each of them, and that both fit.
pub record Stepping (P : ℕ → ℕ → Type 0) (d a i n : ℕ) : Type 0 where
  pub each : (k : ℕ) → k < n → P (a + k) (i + k * d)
  pub last : i + n * d ≤ 2 * most_voxels
  pub end : a + n ≤ most_voxels

-- A byte is set.
abbrev pub mark_at : List ℕ → ℕ → ℕ → List ℕ
mark_at marks k i = set marks i 1

-- The bytes of a row are set, a stride apart.
unfoldable pub mark_row_at : ℕ → ℕ → List ℕ → ℕ → ℕ → List ℕ
mark_row_at du wide marks k i = steps du mark_at marks 0 i wide

-- The bytes of a rectangle are set, row by row.
unfoldable pub mark_quad_at : ℕ → ℕ → ℕ → ℕ → List ℕ → ℕ → List ℕ
mark_quad_at du wide dv high marks i = steps dv (mark_row_at du wide) marks 0 i high

-- The byte at an index was lent.
abbrev pub Marked : ℕ → ℕ → ℕ → Type 0
Marked lent k i = i < lent

-- So were those of a row,
abbrev pub RowMarked : ℕ → ℕ → ℕ → ℕ → ℕ → Type 0
RowMarked lent du wide k i = Stepping (Marked lent) du 0 i wide

-- and those of a rectangle.
abbrev pub QuadMarked : ℕ → ℕ → ℕ → ℕ → ℕ → ℕ → Type 0
QuadMarked lent du wide dv high i = Stepping (RowMarked lent du wide) dv 0 i high
