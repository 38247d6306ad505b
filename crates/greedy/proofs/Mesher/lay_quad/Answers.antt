-- `lay_quad` meets its contract: the rectangle that was found is marked and listed.
use Rattle.std.proofs.Common.{arith, ap, ◌≡◌, ◌<◌, length}
use Rattle.rules.specs.Merger.{pick}
use Rattle.greedy.specs.Scans.{Scanned, progress, SpotReady, voxel_tests, RoomFor}
use Rattle.greedy.proofs.Rectangles.{picked_at, picked_marked, picked_tests}
use Rattle.greedy.proofs.Scanning.{laid_made}
use Rattle.greedy.proofs.Mesher.lay_quad.Goals as goal
use Rattle.greedy.proofs.Mesher.lay_quad.Goals.{After-find_quad-found, Start}

-- What is asked for: room for a voxel's tests, and what the scan of the voxel reads was lent.
room : (c : Start) → RoomFor voxel_tests (progress c.args.self.now)
room c = c.requires.room_for

ready : (c : Start) → SpotReady (length c.args.self.now.block.voxels.now) (length c.args.self.now.visited.now) c.args.scan.now c.args.minimum c.args.min_index.0
ready c = c.requires.spot_ready

-- What was found, by the rule.
found : (c : After-find_quad-found) → let a = c.args in pick c.find_quad-found.result.width c.find_quad-found.result.height c.find_quad-found.result.tests ≡ picked_at a.self.now.block.voxels.now a.self.now.visited.now a.scan.now a.minimum a.min_index.0
found c =
    rw (c.view-view.ensures.voxels, c.view-view.ensures.visited, c.view-view.ensures.strides, c.coordinate.ensures, c.coordinate-2.ensures, c.coordinate-3.ensures, c.coordinate-4.ensures) at c.find_quad-found.ensures

-- It took few tests.
few : (c : After-find_quad-found) → let a = c.args in SpotReady (length a.self.now.block.voxels.now) (length a.self.now.visited.now) a.scan.now a.minimum a.min_index.0 → c.find_quad-found.result.tests < voxel_tests
few c lent = let a = c.args in picked_tests a.self.now.block.voxels.now a.self.now.visited.now a.scan.now a.minimum a.min_index.0 lent (found c)

pub mark_quad-requires : goal.mark_quad-requires
mark_quad-requires c = picked_marked c.args.self.now.block.voxels.now c.args.self.now.visited.now c.args.scan.now c.args.minimum c.args.min_index.0 (ready (goal.at.mark_quad-requires c).Start) (found (goal.at.mark_quad-requires c).After-find_quad-found)

pub overflow_add-self : goal.overflow_add-self
overflow_add-self c = record { fits = omega (arith, few (goal.at.overflow_add-self c).After-find_quad-found (ready (goal.at.overflow_add-self c).Start)) }

pub overflow_add-self-2 : goal.overflow_add-self-2
overflow_add-self-2 c =
    let same = ap (λ (s : Scanned). s.tests) c.push.ensures.pushed in
    record { fits = omega (arith, (room (goal.at.overflow_add-self-2 c).Start).1, few (goal.at.overflow_add-self-2 c).After-find_quad-found (ready (goal.at.overflow_add-self-2 c).Start)) }

pub returns-clause-laid : goal.returns-clause-laid
returns-clause-laid c =
    laid_made c.args.self.now.block.voxels.now c.args.scan.now c.args.minimum c.args.min_index.0 _ (room (goal.at.returns-clause-laid c).Start).0 _ _ _ (ready (goal.at.returns-clause-laid c).Start)
    (found (goal.at.returns-clause-laid c).After-find_quad-found) c.mark_quad.ensures c.push.ensures.pushed
