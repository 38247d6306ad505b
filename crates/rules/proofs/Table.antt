-- Document 01's marked examples hold of the rules: each side of each row is computed.
use mathlib.Core.Path.{refl}
use Rattle.geometry.specs.Refusal.{answer}
use Rattle.geometry.specs.Point.{along, put, moved}
use Rattle.geometry.specs.Axes.{same}
use Rattle.geometry.specs.Quad.{minimum_within_limits, side_within_limits, within_limits}
use Rattle.geometry.specs.Checks.{proper_sign}
use Rattle.geometry.specs.Corners.{base, corner, quad_corners}
use Rattle.geometry.specs.Textures.{flips_u, quad_textures}
use Rattle.geometry.specs.Lists.{those, Each}
use Rattle.voxels.specs.Voxel.{class, merge_value, shows, uniform}
use Rattle.voxels.specs.Shape.{size, index, field}
use Rattle.voxels.specs.Extent.{scan}
use Rattle.voxels.specs.Loop.{looped}
use Rattle.voxels.specs.Visible.{stepped, visible}
use Rattle.rules.specs.Group.{slice_at, sweep, among, contains, visited, passes, scanned, swept, group}
use Rattle.rules.specs.Merger.{follows, walked, walked_rows, row_walk, rows_walk, voxel_merger}
use Rattle.rules.specs.Unit.{unit_group, unit_groups}
use Rattle.rules.specs.Greedy.{greedy_group, greedy_groups, greedy_tests}
use Rattle.rules.specs.Table.{block, minima_of, quads_of, tests_of, Holds, table}

pub table_holds : Each Holds table
unfolding table Each Holds minima_of quads_of tests_of block unit_groups unit_group those greedy_groups greedy_group greedy_tests group swept scanned passes visited contains among sweep slice_at voxel_merger rows_walk row_walk walked_rows walked follows visible stepped scan looped field index size class merge_value shows uniform along put moved quad_corners quad_textures answer proper_sign same within_limits minimum_within_limits side_within_limits base corner flips_u
table_holds = (refl, ((refl, refl), (refl, ((refl, refl), ((refl, refl), ((refl, refl), (refl, ((refl, refl), (refl, (refl, (refl, (refl, (refl, (refl, (refl, (refl, tt))))))))))))))))
