-- `OrientedBlockFace::check_drawing` meets its contract: 6 and 12 in turn.
use mathlib.Core.List.{[], ◌∷◌}
use Rattle.geometry.specs.Checks.{bad_quad, face_checks}
use Rattle.geometry.proofs.Orders.{first_follows, asked_in_turn}
use Rattle.geometry.proofs.face.OrientedBlockFace.check_drawing.Goals as goal

pub returns : goal.returns
returns c =
    let a = c.args in
    asked_in_turn (face_checks a.self) (bad_quad a.self a.quad ∷ []) c.check_sign.ensures c.check_quad.ensures (first_follows _ _ c.first_refusal.ensures)
