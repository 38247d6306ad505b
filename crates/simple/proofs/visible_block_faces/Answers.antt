-- `visible_block_faces` meets its contract: the entry decides, or what the groups leave.
use mathlib.Core.Path.{sym, ap}
use Prim.Native.Nat.{ℕ}
use lib.ListN.{get_or}
use mir.Syntax.{w16}
use mir.Val.{Fits}
use Rattle.geometry.proofs.Answers.{handed_on}
use Rattle.listing.specs.Outcome.{mesh_answer}
use Rattle.simple.proofs.Outcome.{refused_outcome, is_meshable, entered_outcome}
use Rattle.simple.proofs.visible_block_faces.Goals as goal

pub mesh-requires : goal.mesh-requires
mesh-requires c =
    let a = c.args in
    let small : (i : ℕ) → Fits w16 (get_or a.voxels.now i 0) = λ i. c.type_inv.voxels i in
    is_meshable a.voxels.now a.voxels_shape a.min a.max a.faces _ (sym c.in_ok-entry.ensures) (λ i. (small i).fits)

pub returns-in_err-entry : goal.returns-in_err-entry
returns-in_err-entry c = refused_outcome _ _ _ _ _ _ _ (sym c.in_err-entry.ensures) (ap mesh_answer (handed_on _ _ c.from_residual.ensures.1))

pub returns : goal.returns
returns c = entered_outcome _ _ _ _ _ _ (sym c.in_ok-entry.ensures) _ c.mesh.ensures
