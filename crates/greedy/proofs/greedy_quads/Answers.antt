-- `greedy_quads` meets its contract: the entry decides, or what the groups leave.
use mathlib.Core.Path.{refl, sym}
use Rattle.geometry.proofs.Answers.{handed_on}
use Rattle.greedy.proofs.Outcome.{refused_outcome, size_is, is_accepted, entered_outcome}
use Rattle.greedy.proofs.greedy_quads.Goals as goal

pub mesh-requires : goal.mesh-requires
mesh-requires c =
    let a = c.args in
    let enters = sym c.in_ok-entry.ensures in
    record { size_value = size_is a.voxels.now a.voxels_shape a.min a.max a.faces a.visited.now _ enters; accepted = is_accepted a.voxels.now a.voxels_shape a.min a.max a.faces a.visited.now _ enters }

pub returns-in_err-entry : goal.returns-in_err-entry
returns-in_err-entry c =
    rw (handed_on c.from_residual.result c.in_err-entry.field-0.0 c.from_residual.ensures.1) (refused_outcome _ _ _ _ _ _ _ (sym c.in_err-entry.ensures))

pub returns : goal.returns
returns c = entered_outcome _ _ _ _ _ _ _ (sym c.in_ok-entry.ensures) _ refl _ c.mesh.ensures
