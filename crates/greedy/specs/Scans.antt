-- For src/lib.rt: the scan of a face by indices, and what its functions ask for and promise, from where a call stands to where it has come. That the scan makes the rule's group is `group_same` (proofs/Sweeps.antt).
use Rattle.std.specs.Prelude.{true, false, List, ◌≡◌, ℕ, ◌+◌, ◌-◌, ◌*◌, ◌≤◌, drop, length}
use Rattle.geometry.specs.declared.axis.Axis.{Axis}
use Rattle.geometry.specs.declared.face.OrientedBlockFace.{OrientedBlockFace}
use Rattle.geometry.specs.declared.quad.UnorientedQuad.{UnorientedQuad}
use Rattle.geometry.specs.Point.{Point, along}
use Rattle.voxels.specs.Shape.{size, field}
use Rattle.voxels.specs.Visible.{modulus}
use Rattle.voxels.specs.Entered.{most_voxels, longest, Entered}
use Rattle.voxels.specs.Loop.{steps}
use Rattle.listing.specs.Pushed.{Output, output, pushed, pushed_all, MadeGroups}
use Rattle.rules.specs.Group.{Pick, quad_of}
use Rattle.rules.specs.Greedy.{greedy_group, greedy_tests}
use Rattle.greedy.specs.Greedy.{listed, quad_numbers, numbers_of, listed_group, listed_groups}
use Rattle.greedy.specs.Walks.{needs_at, QuadReady, quad_at}
use Rattle.greedy.specs.Marks.{Stepping, mark_quad_at}
use Rattle.greedy.specs.Spans.{spot}
use Rattle.voxels.specs.declared.extent.Extent.{Extent}
use Rattle.greedy.specs.declared.face_scan.Span.{Span}
use Rattle.greedy.specs.declared.face_scan.FaceScan.{FaceScan}
use Rattle.greedy.specs.declared.Mesher.{Mesher}
use Rattle.greedy.specs.declared.Meshed.{Meshed}

-- What a scan has made: the visited bytes, the output, and the tests.
pub record Scanned : Type 0 where
  pub marks : List ℕ
  pub output : Output
  pub tests : ℕ

-- The same of a mesher: how far it is.
abbrev pub progress : Mesher → Scanned
progress m = record { marks = m.visited.now; output = output m.out.now m.listed; tests = m.tests }

-- With one quad more listed.
abbrev pub listed_on : Scanned → UnorientedQuad → Scanned
listed_on s q = record { marks = s.marks; output = pushed quad_numbers numbers_of s.output (listed q); tests = s.tests }

-- A mesher is still at the same call: its block is what it was, and it has the buffers that it had, as long as they were.
pub record SameCall (was now : Mesher) : Type 0 where
  pub block : now.block ≡ was.block
  pub visited : now.visited.ghost_name ≡ was.visited.ghost_name
  pub out : now.out.ghost_name ≡ was.out.ghost_name
  pub marks_long : length now.visited.now ≡ length was.visited.now
  pub out_long : length now.out.now ≡ length was.out.now

-- ---- what is scanned, by indices

-- The room from a point to a bound along an axis.
abbrev pub room_to : Axis → Point → Point → ℕ
room_to a bound p = along a bound - along a p

-- A rectangle that was picked at a point and its index is marked and listed, whatever picked it.
unfoldable pub laid_by : FaceScan → Scanned → Point → ℕ → Pick → Scanned
laid_by c s p i q =
    record {
      marks = mark_quad_at c.strides.u_stride.0 q.width c.strides.v_stride.0 q.height s.marks i;
      output = pushed quad_numbers numbers_of s.output (listed (quad_of p q));
      tests = s.tests + 1 + q.tests;
    }

-- That of the walk is.
unfoldable pub laid_at : List ℕ → FaceScan → Scanned → Point → ℕ → Scanned
laid_at voxels c s p i =
    laid_by c s p i (quad_at voxels s.marks c.strides.visibility_offset.0 c.strides.u_stride.0 c.strides.v_stride.0 (room_to c.axes.u c.bound p) (room_to c.axes.v c.bound p) i)

-- A voxel is scanned.
unfoldable pub scanned_at : List ℕ → FaceScan → Scanned → Point → ℕ → Scanned
scanned_at voxels c s p i =
    elim (needs_at voxels s.marks c.strides.visibility_offset.0 i) [
      | false ↦ record { marks = s.marks; output = s.output; tests = s.tests + 1 }
      | true ↦ laid_at voxels c s p i
    ]

-- A loop over a span from an index on.
abbrev pub over : {S : Type 0} → Span → (S → ℕ → ℕ → S) → S → ℕ → S
over l act s i = steps l.stride.0 act s l.start i l.count

-- The row of a slice is scanned, the slice and the row given by their coordinates.
unfoldable pub row_along : List ℕ → FaceScan → ℕ → Scanned → ℕ → ℕ → Scanned
row_along voxels c k s j i = over c.row (λ (s : Scanned) (x i : ℕ). scanned_at voxels c s (spot c.axes.n k j x) i) s i

-- A slice is scanned, row by row.
unfoldable pub slice_along : List ℕ → FaceScan → Scanned → ℕ → ℕ → Scanned
slice_along voxels c s k i = over c.rows (row_along voxels c k) s i

-- All slices are.
unfoldable pub slices_along : List ℕ → FaceScan → Scanned → ℕ → Scanned
slices_along voxels c s i = over c.slices (slice_along voxels c) s i

-- ---- what scanning asks for

-- What the scan of a voxel asks for: all that its rectangle may read was lent, and the rectangle is small.
pub record SpotReady (voxels marks : ℕ) (c : FaceScan) (p : Point) (i : ℕ) : Type 0 where
  pub quad : QuadReady voxels marks c.strides.visibility_offset.0 i c.strides.u_stride.0 (room_to c.axes.u c.bound p) c.strides.v_stride.0 (room_to c.axes.v c.bound p)
  pub wide_short : room_to c.axes.u c.bound p ≤ longest
  pub high_short : room_to c.axes.v c.bound p ≤ longest

-- The same over a span from an index on.
abbrev pub Over : Span → (ℕ → ℕ → Type 0) → ℕ → Type 0
Over l P i = Stepping P l.stride.0 l.start i l.count

-- For a row,
abbrev pub RowScan : ℕ → ℕ → FaceScan → ℕ → ℕ → ℕ → Type 0
RowScan voxels marks c k j i = Over c.row (λ (x i : ℕ). SpotReady voxels marks c (spot c.axes.n k j x) i) i

-- a slice,
abbrev pub SliceScan : ℕ → ℕ → FaceScan → ℕ → ℕ → Type 0
SliceScan voxels marks c k i = Over c.rows (RowScan voxels marks c k) i

-- and all slices.
abbrev pub SlicesScan : ℕ → ℕ → FaceScan → ℕ → Type 0
SlicesScan voxels marks c i = Over c.slices (SliceScan voxels marks c) i

-- More tests than one scanned voxel takes,
abbrev pub voxel_tests : ℕ
voxel_tests = modulus

-- and a row,
abbrev pub row_tests : FaceScan → ℕ
row_tests c = c.row.count * voxel_tests

-- a slice,
abbrev pub slice_tests : FaceScan → ℕ
slice_tests c = c.rows.count * row_tests c

-- and all slices.
abbrev pub face_tests : FaceScan → ℕ
face_tests c = c.slices.count * slice_tests c

-- An ample bound on the tests of a call.
abbrev pub ample_tests : ℕ
ample_tests = 64 * most_voxels * voxel_tests

-- A call that stands here has listed no more quads than it has made tests, and can make so many tests more. (How many differs from function to function: no invariant of a mesher says it.)
abbrev pub RoomFor : ℕ → Scanned → Type 0
RoomFor most s = (s.output.listed ≤ s.tests) × (s.tests + most ≤ ample_tests)

-- What an accepted call goes by: its box passed the entry checks, and so many visited bytes were lent. (`Entered` names the box, which its interior does not determine: a ghost field takes no such fact.)
pub record Accepted (voxels marks : ℕ) (shape : Point) (inner : Extent) : Type 0 where
  pub entered : Entered voxels shape inner
  pub marked : size shape ≤ marks

-- ---- what scanning promises

-- From where a scan stood to where it has come: it made what the rule says, no more quads than tests, and at most so many tests more.
pub record Scans (act : Scanned → Scanned) (most : ℕ) (was now : Scanned) : Type 0 where
  pub is : now ≡ act was
  pub few : now.output.listed ≤ now.tests
  pub bound : now.tests ≤ was.tests + most

-- The quad of a voxel is laid.
abbrev pub QuadLaid : List ℕ → FaceScan → Point → ℕ → Scanned → Scanned → Type 0
QuadLaid voxels c p i = Scans (λ (s : Scanned). laid_at voxels c s p i) voxel_tests

-- A row of a slice is scanned,
abbrev pub RowScanned : List ℕ → FaceScan → ℕ → ℕ → ℕ → Scanned → Scanned → Type 0
RowScanned voxels c k j i = Scans (λ (s : Scanned). row_along voxels c k s j i) (row_tests c)

-- a slice,
abbrev pub SliceScanned : List ℕ → FaceScan → ℕ → ℕ → Scanned → Scanned → Type 0
SliceScanned voxels c k i = Scans (λ (s : Scanned). slice_along voxels c s k i) (slice_tests c)

-- and all slices.
abbrev pub SlicesScanned : List ℕ → FaceScan → ℕ → Scanned → Scanned → Type 0
SlicesScanned voxels c i = Scans (λ (s : Scanned). slices_along voxels c s i) (face_tests c)

-- Past the first n the bytes are as they were.
abbrev pub SameFrom : ℕ → List ℕ → List ℕ → Type 0
SameFrom n was marks = drop n marks ≡ drop n was

-- The group of a face is meshed: its listing stands after those before, its tests are added, and past the shape's voxels no visited byte has changed.
pub record FaceMeshed (voxels : List ℕ) (shape : Point) (inner : Extent) (f : OrientedBlockFace) (was now : Scanned) : Type 0 where
  pub is : now.output ≡ pushed_all quad_numbers numbers_of was.output (listed_group inner (field shape voxels) f)
  pub tests_are : now.tests ≡ was.tests + (greedy_group inner (field shape voxels) f).tests
  pub rest : SameFrom (size shape) was.marks now.marks
  pub few : now.output.listed ≤ now.tests
  pub bound : now.tests ≤ was.tests + most_voxels * voxel_tests

-- All faces' groups are.
pub record FacesMeshed (voxels : List ℕ) (shape : Point) (inner : Extent) (faces : List OrientedBlockFace) (was_marks was_out marks out : List ℕ) (r : Meshed) : Type 0 where
  pub made : MadeGroups quad_numbers numbers_of (listed_groups inner (field shape voxels) faces) was_out out r.listed r.counts
  pub tests_are : r.tests ≡ greedy_tests inner (field shape voxels) faces
  pub rest : SameFrom (size shape) was_marks marks
