-- What the loops that count and those that list read, and what both ask for: a voxel, a row, rows and slices of rows, from an index on, can be looked at with the neighbours that six strides lead to, and six numbers,
-- counts or cursors, can grow. Each level is said over the one below it. No public contract uses these.
use Rattle.std.specs.Prelude.{Bool, List, ◌≡◌, ℕ, suc, ◌+◌, ◌*◌, ◌≤◌, ◌<◌, length, get_or}
use Rattle.voxels.specs.declared.index.Stride.{Stride}
use Rattle.voxels.specs.Voxel.{class, shows}
use Rattle.voxels.specs.Visible.{offset_index}
use Rattle.voxels.specs.Entered.{most_voxels, longest}
use Rattle.simple.specs.declared.block.Block.{Block}
use Rattle.simple.specs.declared.rows.Rows.{Rows}
use Rattle.simple.specs.declared.rows.Slices.{Slices}

-- What stands past the end of a list of strides.
abbrev pub no_stride : Stride
no_stride = record { 0 = 0 }

-- Of six strides, one a face, a face's, as the offset that it adds to an index.
abbrev pub offset_of : List Stride → ℕ → ℕ
offset_of strides f = (get_or strides f no_stride).0

-- What holds of each of six faces.
abbrev pub EachFace : (ℕ → Type 0) → Type 0
EachFace holds = (f : ℕ) → f < 6 → holds f

-- Whether the voxel at an index shows its face to the one that an offset leads to.
unfoldable pub shows_at : List ℕ → ℕ → ℕ → Bool
shows_at voxels offset i = shows (get_or voxels i 0) (get_or voxels (offset_index i offset) 0)

-- ---- what can be looked at

-- A voxel and the one that an offset leads to: both were lent, and the voxel is not bad.
pub record VoxelReady (voxels : List ℕ) (offset i : ℕ) : Type 0 where
  pub here : i < length voxels
  pub beyond : offset_index i offset < length voxels
  pub good : class (get_or voxels i 0) ≤ 2

-- What a loop passes through, at i, i + d, i + 2·d, .., n times: at each something holds of so many voxels, which end before the next, and the indices fit.
pub record Stepped (holds : ℕ → Type 0) (i d n many : ℕ) : Type 0 where
  pub each : (k : ℕ) → k < n → holds (i + k * d)
  pub last : i + n * d ≤ 2 * most_voxels
  pub apart : many ≤ d

-- The voxels of a row, whose neighbours' indices do not wrap on the way, and which can be counted in 16 bits.
pub record RowReady (voxels : List ℕ) (offset i wide : ℕ) : Type 0 where
  pub steps : Stepped (VoxelReady voxels offset) i 1 wide 1
  pub near : 0 < wide → offset_index i offset + wide ≤ 2 * most_voxels
  pub short : wide ≤ longest

-- No voxel of so many from an index on is bad.
abbrev pub NoneBad : List ℕ → ℕ → ℕ → Type 0
NoneBad voxels i n = (k : ℕ) → k < n → class (get_or voxels (i + k) 0) ≤ 2

-- Rows, and, where they are two voxels apart, that none of those between them is bad.
pub record RowsReady (voxels : List ℕ) (offset i : ℕ) (rows : Rows) : Type 0 where
  pub steps : Stepped (λ (j : ℕ). RowReady voxels offset j rows.wide) i rows.stride.0 rows.high rows.wide
  pub between : rows.stride.0 ≡ rows.wide + 2 → (k : ℕ) → suc k < rows.high → NoneBad voxels (i + k * rows.stride.0 + rows.wide) 2

-- How many voxels rows reach over, with what lies between them.
abbrev pub reach : Rows → ℕ
reach rows = rows.high * rows.stride.0

-- Slices of rows.
abbrev pub SlicesReady : List ℕ → ℕ → ℕ → Slices → Type 0
SlicesReady voxels offset i slices = Stepped (λ (j : ℕ). RowsReady voxels offset j slices.rows) i slices.stride.0 slices.deep (reach slices.rows)

-- ---- what can be counted, and so listed

-- An ample bound on how many quads are listed: a call lists at most six times as many as a shape has voxels.
abbrev pub most_listed : ℕ
most_listed = 16 * most_voxels

-- Six numbers, one a face, each of which can grow by so many.
pub record Room (numbers : List ℕ) (most : ℕ) : Type 0 where
  pub all : length numbers ≡ 6
  pub each : (f : ℕ) → f < 6 → get_or numbers f 0 + most ≤ most_listed

-- Something can be looked at with the neighbours that each of six strides leads to, and each face's number, its count or its cursor, can grow by so many.
pub record Countable (ready : ℕ → Type 0) (strides : List Stride) (numbers : List ℕ) (most : ℕ) : Type 0 where
  pub each : EachFace (λ (f : ℕ). ready (offset_of strides f))
  pub room : Room numbers most

-- So a voxel,
abbrev pub VoxelCountable : Block → List ℕ → ℕ → Type 0
VoxelCountable block numbers i = Countable (λ (o : ℕ). VoxelReady block.voxels.now o i) block.strides numbers 1

-- a row,
abbrev pub RowCountable : Block → List ℕ → ℕ → ℕ → Type 0
RowCountable block numbers i wide = Countable (λ (o : ℕ). RowReady block.voxels.now o i wide) block.strides numbers wide

-- rows
abbrev pub RowsCountable : Block → List ℕ → ℕ → Rows → Type 0
RowsCountable block numbers i rows = Countable (λ (o : ℕ). RowsReady block.voxels.now o i rows) block.strides numbers (reach rows)

-- and slices.
abbrev pub SlicesCountable : Block → List ℕ → ℕ → Slices → Type 0
SlicesCountable block numbers i slices = Countable (λ (o : ℕ). SlicesReady block.voxels.now o i slices) block.strides numbers (slices.deep * slices.stride.0)
