-- `OrientedBlockFace::quad_mesh_indices` meets its contract: a sign and a first index that passed are ones that the two functions below it take.
use mathlib.Core.List.{[], ◌∷◌}
use mathlib.Core.Path.{sym}
use Rattle.geometry.specs.Checks.{bad_start, index_checks}
use Rattle.geometry.specs.Vertices.{quad_indices}
use Rattle.geometry.proofs.Answers.{value_given, refusal_given}
use Rattle.geometry.proofs.Limits.{sign_proper, start_small}
use Rattle.geometry.proofs.face.OrientedBlockFace.quad_mesh_indices.Goals as goal

pub returns-in_err-check_indexing : goal.returns-in_err-check_indexing
unfolding quad_indices
returns-in_err-check_indexing c =
    let a = c.args in
    refusal_given (index_checks a.self a.start) _ _ c.in_err-check_indexing.field-0.0 c.from_residual.ensures.1 c.in_err-check_indexing.ensures

pub counter_clockwise-requires : goal.counter_clockwise-requires
counter_clockwise-requires c =
    let a = c.args in
    sign_proper a.self (bad_start a.start ∷ []) (sym c.in_ok-check_indexing.ensures)

pub quad_indices-requires : goal.quad_indices-requires
quad_indices-requires c =
    let a = c.args in
    start_small a.self a.start (sym c.in_ok-check_indexing.ensures)

pub returns : goal.returns
unfolding quad_indices
returns c =
    let a = c.args in
    value_given (index_checks a.self a.start) _ c.in_ok-check_indexing.ensures (rw (c.quad_indices.ensures, c.counter_clockwise.ensures))
