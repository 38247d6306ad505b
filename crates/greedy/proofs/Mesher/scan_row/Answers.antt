-- `scan_row` meets its contract: what is scanned so far, idle voxels and others, is the row's first part.
use Rattle.std.proofs.Common.{◌<◌, ◌+◌, ◌*◌, ◌-◌, ◌≤◌, ℕ, List, length, arith}
use Rattle.voxels.proofs.Loops.{Underway, underway_start, underway_on}
use Rattle.greedy.specs.Spans.{spot}
use Rattle.greedy.specs.Walks.{Idle}
use Rattle.greedy.specs.Scans.{Scanned, scanned_at, voxel_tests, progress, row_along, RowScan, row_tests, RoomFor, SpotReady}
use Rattle.greedy.proofs.Scanning.{Scanning, scan_start, scan_on, scan_done, scanned_laid, scan_asks}
use Rattle.greedy.proofs.Passing.{underway_past, rest_ready, idle_ends, idle_on}
use Rattle.greedy.specs.declared.Mesher.{Mesher}
use Rattle.greedy.proofs.Mesher.scan_row.Goals as goal
use Rattle.greedy.proofs.Mesher.scan_row.Goals.{After-spot-minimum, After-idle-passed, Start}

room : (c : Start) → RoomFor (row_tests c.args.scan.now) (progress c.args.self.now)
room c = c.requires.room_for

ready : (c : Start) → RowScan (length c.args.self.now.block.voxels.now) (length c.args.self.now.visited.now) c.args.scan.now c.args.slice c.args.row c.args.start.0
ready c = c.requires.row_scan

-- What was passed, by the block itself.
passed : (c : After-idle-passed) →
    let span = c.args.scan.now.row in
    Idle c.loop-k.self.block.voxels.now c.loop-k.self.visited.now c.args.scan.now.strides.visibility_offset.0 (c.args.start.0 + c.loop-k.k * span.stride.0) span.stride.0 (span.count - c.loop-k.k) c.idle-passed.result
passed c = rw (c.view-view.ensures.voxels, c.view-view.ensures.visited, c.view-view.ensures.strides, c.loop-k.invariant.0.place) at c.idle-passed.ensures

-- Where the scan stands then,
stands : (c : After-idle-passed) → let span = c.args.scan.now.row in Underway span.stride.0 c.args.start.0 span.count (c.loop-k.k + c.idle-passed.result) (c.loop-k.index + c.idle-passed.result * span.stride.0)
stands c = underway_past c.loop-k.invariant.0 c.idle-passed.result c.idle-passed.ensures.within

-- and that it has made what the row's first part makes.
behind : (c : After-idle-passed) →
    let a = c.args in
    let m : Mesher = c.loop-k.self in
    let span = a.scan.now.row in
    Scanning (λ (voxels : List ℕ) (s : Scanned) (x j : ℕ). scanned_at voxels a.scan.now s (spot a.scan.now.axes.n a.slice a.row x) j) voxel_tests span.stride.0 span.start a.start.0 a.self.now
    (record { block = m.block; visited = m.visited; out = m.out; listed = m.listed; tests = m.tests + c.idle-passed.result }) (c.loop-k.k + c.idle-passed.result)
behind c = let a = c.args in idle_on a.scan.now (spot a.scan.now.axes.n a.slice a.row) _ c.loop-k.invariant.1 (passed c).passed

-- After them the row is not at its end.
unfinished : (c : After-spot-minimum) → c.loop-k.k + c.idle-passed.result ≤ c.args.scan.now.row.count → c.loop-k.k + c.idle-passed.result < c.args.scan.now.row.count
unfinished c within = omega (arith, within, c.if-k-span.false)

pub loop-k-init : goal.loop-k-init
loop-k-init c = (underway_start, scan_start (room (goal.at.loop-k-init c).Start).0)

pub idle-passed-requires : goal.idle-passed-requires
idle-passed-requires c =
    let same = c.loop-k.invariant.1.same in
    rw (c.view-view.ensures.voxels, c.view-view.ensures.visited, c.view-view.ensures.strides, same.block, same.marks_long, c.loop-k.invariant.0.place) (rest_ready c.loop-k.k (ready (goal.at.idle-passed-requires c).Start) c.loop-k-test.true)

pub returns-then-k-span-clause-scanned : goal.returns-then-k-span-clause-scanned
unfolding row_along
returns-then-k-span-clause-scanned c = scan_done (behind (goal.at.returns-then-k-span-clause-scanned c).After-idle-passed) c.if-k-span.true

pub lay_quad-requires-clause-spot_ready : goal.lay_quad-requires-clause-spot_ready
lay_quad-requires-clause-spot_ready c =
    let a = c.args in
    let past = (goal.at.lay_quad-requires-clause-spot_ready c).After-idle-passed in
    let more = unfinished (goal.at.lay_quad-requires-clause-spot_ready c).After-spot-minimum (stands past).within in
    rw (c.spot-minimum.ensures, (stands past).place)
    (scan_asks (behind past) (λ (voxels marks x j : ℕ). SpotReady voxels marks a.scan.now (spot a.scan.now.axes.n a.slice a.row x) j) (ready (goal.at.lay_quad-requires-clause-spot_ready c).Start) more)

pub loop-k-preserved : goal.loop-k-preserved
loop-k-preserved c =
    let past = (goal.at.loop-k-preserved c).After-idle-passed in
    let more = unfinished (goal.at.loop-k-preserved c).After-spot-minimum (stands past).within in
    let laid = rw (c.spot-minimum.ensures, (stands past).place) at c.lay_quad.ensures.laid in
    (underway_on (stands past) more, scan_on (behind past) c.lay_quad.ensures.same_call (scanned_laid _ _ _ _ _ (behind past).few (idle_ends _ c.loop-k.k (passed past) more) laid))

pub returns-clause-scanned : goal.returns-clause-scanned
unfolding row_along
returns-clause-scanned c = scan_done c.loop-k.invariant.1 (omega arith)
