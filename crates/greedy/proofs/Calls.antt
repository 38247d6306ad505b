-- The examples hold as whole calls: each side of each is computed.
use mathlib.Core.Path.{refl}
use Rattle.geometry.specs.Refusal.{answer}
use Rattle.geometry.specs.Point.{along, put, moved}
use Rattle.geometry.specs.Axes.{same}
use Rattle.geometry.specs.Checks.{proper_sign}
use Rattle.geometry.specs.Lists.{Each}
use Rattle.voxels.specs.Voxel.{class, merge_value, shows, uniform}
use Rattle.voxels.specs.Shape.{size, index, field}
use Rattle.voxels.specs.Extent.{scan}
use Rattle.voxels.specs.Loop.{looped}
use Rattle.voxels.specs.Checks.{bounds_checks, bad_axis, bad_faces_from, bad_voxels}
use Rattle.voxels.specs.Visible.{stepped, visible}
use Rattle.listing.specs.Listing.{joined, overwritten, capacity, lay}
use Rattle.listing.specs.Outcome.{listed_after}
use Rattle.rules.specs.Group.{slice_at, sweep, among, contains, visited, passes, scanned, swept, group}
use Rattle.rules.specs.Merger.{follows, walked, walked_rows, row_walk, rows_walk, voxel_merger}
use Rattle.rules.specs.Greedy.{greedy_group, greedy_tests}
use Rattle.rules.specs.Table.{block}
use Rattle.greedy.specs.Greedy.{listed_groups, greedy_from, greedy_quads}
use Rattle.greedy.specs.Calls.{call, CallIs, numbers_of_all, calls}

pub calls_hold : Each CallIs calls
unfolding calls Each CallIs numbers_of_all call block greedy_quads greedy_from listed_groups listed_after lay joined overwritten capacity bounds_checks bad_axis bad_faces_from bad_voxels greedy_group greedy_tests group swept scanned passes visited contains among sweep slice_at voxel_merger rows_walk row_walk walked_rows walked follows visible stepped scan looped field index size class merge_value shows uniform along put moved answer proper_sign same
calls_hold = (refl, (refl, (refl, (refl, tt))))
