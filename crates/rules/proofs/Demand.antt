-- Demand 3. Cover and areas of any choice made safe, from any consistent start; the whole of it of the greedy group of a face, whose walk needs no making safe.
use mathlib.Core.List.{[], ◌∷◌}
use mathlib.Core.Path.{◌≡◌, refl}
use native.Mathlib.Omega.{arith}
use Rattle.geometry.specs.declared.axis.SignedAxis.TheVariants.{PosZ}
use Rattle.geometry.specs.declared.face.OrientedBlockFace.{OrientedBlockFace}
use Rattle.geometry.specs.Point.{at, along, put, moved}
use Rattle.geometry.specs.Axes.{n_axis}
use Rattle.geometry.specs.Lists.{Each, how_many}
use Rattle.voxels.specs.Voxel.{class, merge_value, shows, uniform}
use Rattle.voxels.specs.Shape.{Field, size, index, field}
use Rattle.voxels.specs.Extent.{scan}
use Rattle.voxels.specs.Loop.{looped}
use Rattle.voxels.specs.Visible.{stepped, visible}
use Rattle.rules.specs.Group.{slice_at, sweep, among, contains, visited, passes, Choice, room_u, room_v, State, scanned, swept, fresh, group, group_from}
use Rattle.rules.specs.Merger.{follows, walked, walked_rows, row_walk, rows_walk, voxel_merger}
use Rattle.rules.specs.Greedy.{greedy_group}
use Rattle.rules.specs.Demand.{sum_of, Cover, Areas, Tests, points, visible_points, most_tests, DemandHolds, InSlice, Uniform, Consistent}
use Rattle.rules.specs.Choices.{admit}
use Rattle.rules.specs.Table.{O, placed, block, whole_interior, face}
use Rattle.rules.proofs.Sweep.{sweep_inside, sweep_length}
use Rattle.rules.proofs.Laid.{admit_sound}
use Rattle.rules.proofs.Covers.{none_consistent, found_each, sound_cover, sound_in_slice, sound_same}
use Rattle.rules.proofs.Areas.{cover_areas}
use Rattle.rules.proofs.Picks.{walk_sound, walk_uniform}
use Rattle.rules.proofs.Bound.{sweep_cost}
use Rattle.voxels.specs.declared.extent.Extent.{Extent}

-- ---- any choice, any consistent start

module _ (f : OrientedBlockFace) (v : Field) (inner : Extent) (choice : Choice) (s : State) where
  -- Cover,
  pub admitted_cover : Consistent f v inner s.quads → Cover f v inner (group_from f v inner (admit f v choice) s).quads
  admitted_cover = sound_cover f v inner (admit f v choice) (admit_sound f v choice) s

  -- areas,
  pub admitted_areas : Consistent f v inner s.quads → Areas f v inner (group_from f v inner (admit f v choice) s).quads
  admitted_areas h = cover_areas f v inner _ (admitted_cover h)

  -- and each quad within its slice, where each of the start is.
  pub admitted_in_slice : Each (InSlice f inner) s.quads → Each (InSlice f inner) (group_from f v inner (admit f v choice) s).quads
  admitted_in_slice = sound_in_slice f v inner (admit f v choice) (admit_sound f v choice) s

-- ---- the greedy group of a face

module _ (f : OrientedBlockFace) (v : Field) (inner : Extent) where
  -- The walk's group is that of the walk made safe.
  pub walk_admitted : group f v inner (admit f v (voxel_merger f v)) ≡ group f v inner (voxel_merger f v)
  unfolding group
  walk_admitted = sound_same f v inner (voxel_merger f v) (walk_sound f v) fresh

  pub greedy_cover : Cover f v inner (greedy_group inner v f).quads
  unfolding greedy_group group
  greedy_cover = rw walk_admitted at (admitted_cover f v inner (voxel_merger f v) fresh (none_consistent f v inner))

  pub greedy_areas : Areas f v inner (greedy_group inner v f).quads
  greedy_areas = cover_areas f v inner _ greedy_cover

  pub greedy_tests_lem : Tests f v inner (greedy_group inner v f).tests
  unfolding greedy_group group sum_of
  greedy_tests_lem = omega (arith, sweep_cost f v inner fresh (sweep (n_axis f) inner) (sweep_inside (n_axis f) inner), sweep_length f inner, greedy_areas)

  -- Demand 3 holds.
  pub demand_holds : DemandHolds f v inner (greedy_group inner v f)
  demand_holds = record { cover = greedy_cover; areas = greedy_areas; tests = greedy_tests_lem }

  -- Each quad is at least 1 by 1 and lies within a slice of the interior,
  pub greedy_in_slice : Each (InSlice f inner) (greedy_group inner v f).quads
  unfolding greedy_group group Each
  greedy_in_slice = sound_in_slice f v inner (voxel_merger f v) (walk_sound f v) fresh tt

  -- and all its voxels are uniform with its first.
  pub greedy_uniform : Each (Uniform f v) (greedy_group inner v f).quads
  unfolding greedy_group group Each
  greedy_uniform =
      found_each f v inner (voxel_merger f v) (Uniform f v) (λ qs p lies e. walk_uniform f v qs p (room_u f inner p) (room_v f inner p)) fresh (sweep (n_axis f) inner) (sweep_inside (n_axis f) inner) tt

-- ---- E2

-- "the bound 4 + 3·1 is met exactly"
pub e2-meets-bound :
    let f : OrientedBlockFace = face PosZ in
    let v : Field = field (at 4 4 3) (block (at 4 4 3) (placed 1 1 1 (O 7) ∷ [])) in
    let inner : Extent = whole_interior (at 4 4 3) in
    (points inner ≡ 4) × (visible_points f v inner ≡ 1) × ((greedy_group inner v f).tests ≡ most_tests f v inner)
unfolding greedy_group group swept scanned passes visited contains among sweep slice_at voxel_merger rows_walk row_walk walked_rows walked follows visible stepped scan looped how_many field index size block class merge_value shows uniform along put moved
e2-meets-bound = (refl, refl, refl)
