-- `OrientedBlockFace::quad_mesh_normals` meets its contract: a sign that passed is one that `mesh_normal` takes.
use mathlib.Core.List.{[]}
use mathlib.Core.Path.{sym}
use Rattle.geometry.specs.Checks.{face_checks}
use Rattle.geometry.specs.Face.{quad_normals}
use Rattle.geometry.proofs.Answers.{value_given, refusal_given}
use Rattle.geometry.proofs.Limits.{sign_proper}
use Rattle.geometry.proofs.face.OrientedBlockFace.quad_mesh_normals.Goals as goal

pub returns-in_err-check_sign : goal.returns-in_err-check_sign
unfolding quad_normals
returns-in_err-check_sign c =
    let a = c.args in
    refusal_given (face_checks a.self) _ _ c.in_err-check_sign.field-0.0 c.from_residual.ensures.1 c.in_err-check_sign.ensures

pub mesh_normal-normal-requires : goal.mesh_normal-normal-requires
mesh_normal-normal-requires c =
    let a = c.args in
    sign_proper a.self [] (sym c.in_ok-check_sign.ensures)

pub returns : goal.returns
unfolding quad_normals
returns c =
    let a = c.args in
    value_given (face_checks a.self) _ c.in_ok-check_sign.ensures (rw c.mesh_normal-normal.ensures)
