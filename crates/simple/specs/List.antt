-- What the private functions of src/list.rt ask for beyond what all loops do, and what they promise: which quads are listed, by coordinates and indices, each face's in a run of its own, and that the runs are apart.
use Rattle.std.specs.Prelude.{List, ◌≡◌, ℕ, zero, suc, ◌+◌, ◌*◌, ◌≤◌, ◌<◌, length, get_or}
use Rattle.geometry.specs.Point.{Point, at}
use Rattle.voxels.specs.declared.index.Stride.{Stride}
use Rattle.voxels.specs.Entered.{most_voxels}
use Rattle.voxels.specs.Rows.{kept_if}
use Rattle.voxels.specs.Loop.{in_step}
use Rattle.listing.specs.Pushed.{output, pushed_all}
use Rattle.simple.specs.declared.block.Block.{Block}
use Rattle.simple.specs.declared.rows.Rows.{Rows}
use Rattle.simple.specs.declared.rows.Slices.{Slices}
use Rattle.simple.specs.Unit.{unit_numbers, numbers_of}
use Rattle.simple.specs.Ready.{offset_of, shows_at, RowReady, RowsReady, SlicesReady, reach, Countable}
use Rattle.simple.specs.Count.{Counted}

-- ---- the quads of the voxels that show a face to the neighbours that an offset leads to

-- The unit quad of a voxel, from its point and its index, or none.
unfoldable pub voxel_quad : List ℕ → ℕ → Point → ℕ → List Point
voxel_quad voxels offset p i = kept_if (shows_at voxels offset i) p

-- Those of a row, from its first voxel's point and index,
unfoldable pub row_quads : List ℕ → ℕ → ℕ → Point → ℕ → List Point
row_quads voxels offset wide p i = in_step 1 (λ (x : ℕ). voxel_quad voxels offset (at x p.y p.z)) p.x i wide

-- of rows,
unfoldable pub rows_quads : List ℕ → ℕ → Rows → Point → ℕ → List Point
rows_quads voxels offset rows p i = in_step rows.stride.0 (λ (y : ℕ). row_quads voxels offset rows.wide (at p.x y p.z)) p.y i rows.high

-- and of slices.
unfoldable pub slices_quads : List ℕ → ℕ → Slices → Point → ℕ → List Point
slices_quads voxels offset slices p i = in_step slices.stride.0 (λ (z : ℕ). rows_quads voxels offset slices.rows (at p.x p.y z)) p.z i slices.deep

-- ---- what can be listed

-- Each face's run of quads ends before the next face's begins.
abbrev pub Apart : List ℕ → (ℕ → List Point) → Type 0
Apart cursors quads = (f : ℕ) → suc f < 6 → get_or cursors f 0 + length (quads f) ≤ get_or cursors (suc f) 0

-- The coordinates from a point on, so far along each axis, are small.
pub record Small (p : Point) (wide high deep : ℕ) : Type 0 where
  pub x : p.x + wide ≤ most_voxels
  pub y : p.y + high ≤ most_voxels
  pub z : p.z + deep ≤ most_voxels

-- What can be counted can be listed, where the runs of each offset's quads are apart.
pub record Listable (ready : ℕ → Type 0) (quads : ℕ → List Point) (strides : List Stride) (cursors : List ℕ) (most : ℕ) : Type 0 where
  pub can : Countable ready strides cursors most
  pub apart : Apart cursors (λ (f : ℕ). quads (offset_of strides f))

-- So a row from a point and an index on,
pub record RowListable (block : Block) (cursors : List ℕ) (wide i : ℕ) (p : Point) : Type 0 where
  pub all : Listable (λ (o : ℕ). RowReady block.voxels.now o i wide) (λ (o : ℕ). row_quads block.voxels.now o wide p i) block.strides cursors wide
  pub small : Small p wide 0 0

-- rows
pub record RowsListable (block : Block) (cursors : List ℕ) (rows : Rows) (i : ℕ) (p : Point) : Type 0 where
  pub all : Listable (λ (o : ℕ). RowsReady block.voxels.now o i rows) (λ (o : ℕ). rows_quads block.voxels.now o rows p i) block.strides cursors (reach rows)
  pub small : Small p rows.wide rows.high 0

-- and slices.
pub record SlicesListable (block : Block) (cursors : List ℕ) (slices : Slices) (i : ℕ) (p : Point) : Type 0 where
  pub all : Listable (λ (o : ℕ). SlicesReady block.voxels.now o i slices) (λ (o : ℕ). slices_quads block.voxels.now o slices p i) block.strides cursors (slices.deep * slices.stride.0)
  pub small : Small p slices.rows.wide slices.rows.high slices.deep

-- ---- what is promised

-- Quads written from a place on, as far as there is room.
unfoldable pub laid_run : List ℕ → ℕ → List Point → List ℕ
laid_run out place quads = (pushed_all unit_numbers numbers_of (output out place) quads).out

-- The runs of the first so many faces, one after another: face f's quads `quads f` from the place `places f` on.
unfoldable pub laid_runs : List ℕ → (ℕ → ℕ) → (ℕ → List Point) → ℕ → List ℕ
laid_runs out places quads zero = out
laid_runs out places quads (suc f) = laid_run (laid_runs out places quads f) (places f) (quads f)

-- Each face's quads were written from its cursor on, and the cursor moved past them.
pub record RunsListed (was cursors : List ℕ) (quads : ℕ → List Point) (out now : List ℕ) : Type 0 where
  pub is : out ≡ laid_runs was (λ (f : ℕ). get_or cursors f 0) quads 6
  pub moved : Counted cursors now (λ (f : ℕ). length (quads f))

-- So those of a voxel,
abbrev pub VoxelListed : Block → ℕ → Point → List ℕ → List ℕ → List ℕ → List ℕ → Type 0
VoxelListed block i p was cursors out now = RunsListed was cursors (λ (f : ℕ). voxel_quad block.voxels.now (offset_of block.strides f) p i) out now

-- a row,
abbrev pub RowListed : Block → ℕ → ℕ → Point → List ℕ → List ℕ → List ℕ → List ℕ → Type 0
RowListed block wide i p was cursors out now = RunsListed was cursors (λ (f : ℕ). row_quads block.voxels.now (offset_of block.strides f) wide p i) out now

-- rows
abbrev pub RowsListed : Block → Rows → ℕ → Point → List ℕ → List ℕ → List ℕ → List ℕ → Type 0
RowsListed block rows i p was cursors out now = RunsListed was cursors (λ (f : ℕ). rows_quads block.voxels.now (offset_of block.strides f) rows p i) out now

-- and slices.
abbrev pub SlicesListed : Block → Slices → ℕ → Point → List ℕ → List ℕ → List ℕ → List ℕ → Type 0
SlicesListed block slices i p was cursors out now = RunsListed was cursors (λ (f : ℕ). slices_quads block.voxels.now (offset_of block.strides f) slices p i) out now
