-- `OrientedBlockFace::check_placing` meets its contract: 6 and 12, and 14 in turn.
use mathlib.Core.List.{[], ◌∷◌}
use Rattle.geometry.specs.Checks.{bad_size, quad_checks}
use Rattle.geometry.proofs.Orders.{first_follows, asked_in_turn}
use Rattle.geometry.proofs.face.OrientedBlockFace.check_placing.Goals as goal

pub returns : goal.returns
returns c =
    let a = c.args in
    asked_in_turn (quad_checks a.self a.quad) (bad_size a.voxel_size ∷ []) c.check_drawing.ensures c.check_size.ensures (first_follows _ _ c.first_refusal.ensures)
