-- `mesh_faces` meets its contract: what is counted are the groups' counts, and what is then listed, from where each group begins, are the groups.
use Rattle.std.proofs.Common.{rules}
use mathlib.Core.Path.{refl}
use Rattle.simple.proofs.Whole.{Meshing, all_countable, counts_small, all_listable, groups_made, none_made}
use Rattle.simple.proofs.mesh_faces.Goals as goal
use Rattle.simple.proofs.mesh_faces.Goals.{After-new-slices}

meshing : (c : After-new-slices) →
    let a = c.args in
    Meshing (record { voxels = a.voxels; strides = c.kernel_strides-strides.result }) a.voxels_shape a.interior a.faces c.linearize-index.result.0 c.new-slices.result
meshing c =
    record {
      can = c.requires;
      six = search rules;
      kernel = c.kernel_strides-strides.ensures;
      first = c.linearize-index.ensures;
      through = c.new-slices.ensures;
    }

pub count_slices-requires : goal.count_slices-requires
count_slices-requires c = all_countable (meshing (goal.at.count_slices-requires c).After-new-slices)

pub run_starts-listed-requires : goal.run_starts-listed-requires
run_starts-listed-requires c = (refl, counts_small (meshing (goal.at.run_starts-listed-requires c).After-new-slices) c.count_slices.ensures)

pub returns-then-listed-eq0 : goal.returns-then-listed-eq0
returns-then-listed-eq0 c = none_made (meshing (goal.at.returns-then-listed-eq0 c).After-new-slices) c.count_slices.ensures c.run_starts-listed.ensures c.if-listed-eq0.true

pub list_slices-requires : goal.list_slices-requires
list_slices-requires c = all_listable (meshing (goal.at.list_slices-requires c).After-new-slices) c.count_slices.ensures c.run_starts-listed.ensures

pub returns : goal.returns
returns c = groups_made (meshing (goal.at.returns c).After-new-slices) c.count_slices.ensures c.run_starts-listed.ensures c.list_slices.ensures
