-- What the private functions of src/count.rt ask for beyond what all loops do, and what they promise: how many faces voxels show, by indices.
use Rattle.std.specs.Prelude.{List, ◌≡◌, ℕ, ◌+◌, ◌-◌, ◌*◌, ◌≤◌, ◌<◌, length, get_or}
use Rattle.geometry.specs.Axes.{bit}
use Rattle.voxels.specs.Entered.{longest}
use Rattle.voxels.specs.Loop.{summed}
use Rattle.simple.specs.declared.block.Block.{Block}
use Rattle.simple.specs.declared.rows.Rows.{Rows}
use Rattle.simple.specs.declared.rows.Slices.{Slices}
use Rattle.simple.specs.Ready.{offset_of, shows_at, RowCountable, RowsCountable}

-- ---- how many are shown to the neighbours that an offset leads to

-- 1 where the voxel at an index shows its face, else 0.
unfoldable pub shown_at : List ℕ → ℕ → ℕ → ℕ
shown_at voxels offset i = bit (shows_at voxels offset i)

-- How many voxels of a row do, from its length and its first index,
unfoldable pub row_shown : List ℕ → ℕ → ℕ → ℕ → ℕ
row_shown voxels offset wide i = summed (shown_at voxels offset) 1 i wide

-- of rows,
unfoldable pub rows_shown : List ℕ → ℕ → Rows → ℕ → ℕ
rows_shown voxels offset rows i = summed (row_shown voxels offset rows.wide) rows.stride.0 i rows.high

-- and of slices.
unfoldable pub slices_shown : List ℕ → ℕ → Slices → ℕ → ℕ
slices_shown voxels offset slices i = summed (rows_shown voxels offset slices.rows) slices.stride.0 i slices.deep

-- ---- what is promised: six numbers grew by what each face shows

-- Six numbers grew, each by what `more` says of its face.
pub record Counted (was now : List ℕ) (more : ℕ → ℕ) : Type 0 where
  pub each : (f : ℕ) → f < 6 → get_or now f 0 ≡ get_or was f 0 + more f
  pub all : length now ≡ 6

-- By what a voxel shows,
abbrev pub VoxelCounted : Block → List ℕ → List ℕ → ℕ → Type 0
VoxelCounted block was now i = Counted was now (λ (f : ℕ). shown_at block.voxels.now (offset_of block.strides f) i)

-- a row,
abbrev pub RowCounted : Block → List ℕ → List ℕ → ℕ → ℕ → Type 0
RowCounted block was now i wide = Counted was now (λ (f : ℕ). row_shown block.voxels.now (offset_of block.strides f) wide i)

-- rows,
abbrev pub RowsCounted : Block → List ℕ → List ℕ → ℕ → Rows → Type 0
RowsCounted block was now i rows = Counted was now (λ (f : ℕ). rows_shown block.voxels.now (offset_of block.strides f) rows i)

-- and slices.
abbrev pub SlicesCounted : Block → List ℕ → List ℕ → ℕ → Slices → Type 0
SlicesCounted block was now i slices = Counted was now (λ (f : ℕ). slices_shown block.voxels.now (offset_of block.strides f) slices i)

-- ---- rows two voxels apart, as one run

-- How long the run is from the first voxel of such rows to their last: short enough to be counted.
pub record Flat (rows : Rows) (long : ℕ) : Type 0 where
  pub apart : rows.stride.0 ≡ rows.wide + 2
  pub wide_some : 0 < rows.wide
  pub high_some : 0 < rows.high
  pub is : long ≡ (rows.high - 1) * rows.stride.0 + rows.wide
  pub short : long ≤ longest

-- They can be counted so.
pub record FlatCountable (block : Block) (counts : List ℕ) (i : ℕ) (rows : Rows) (long : ℕ) : Type 0 where
  pub can : RowsCountable block counts i rows
  pub flat : Flat rows long

-- What lies between them, as rows: two voxels each, from after the first row on.
abbrev pub gaps_of : Rows → Rows
gaps_of rows = record { wide = 2; stride = rows.stride; high = rows.high - 1 }

-- Six numbers, one a face, each at most what `most` says of its face.
pub record Within (numbers : List ℕ) (most : ℕ → ℕ) : Type 0 where
  pub all : length numbers ≡ 6
  pub each : (f : ℕ) → f < 6 → get_or numbers f 0 ≤ most f

-- A run can be counted, less so many of each face, which it shows at least.
pub record RunCountable (block : Block) (counts less : List ℕ) (i long : ℕ) : Type 0 where
  pub can : RowCountable block counts i long
  pub within : Within less (λ (f : ℕ). row_shown block.voxels.now (offset_of block.strides f) long i)

-- It was.
abbrev pub RunCounted : Block → List ℕ → List ℕ → List ℕ → ℕ → ℕ → Type 0
RunCounted block less was now i long = Counted was now (λ (f : ℕ). row_shown block.voxels.now (offset_of block.strides f) long i - get_or less f 0)
