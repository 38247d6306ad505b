-- `OrientedBlockFace::tex_coords` meets its contract: a sign and a quad that passed are ones that the two functions below it take.
use mathlib.Core.List.{[], ◌∷◌}
use mathlib.Core.Path.{sym}
use native.Mathlib.Omega.{arith}
use Rattle.geometry.specs.Checks.{bad_quad, quad_checks}
use Rattle.geometry.specs.Textures.{quad_textures}
use Rattle.geometry.proofs.Answers.{value_given, refusal_given}
use Rattle.geometry.proofs.Limits.{sign_proper, quad_within_bounds}
use Rattle.geometry.proofs.face.OrientedBlockFace.tex_coords.Goals as goal

pub returns-in_err-check_drawing : goal.returns-in_err-check_drawing
unfolding quad_textures
returns-in_err-check_drawing c =
    let a = c.args in
    refusal_given (quad_checks a.self a.quad) _ _ c.in_err-check_drawing.field-0.0 c.from_residual.ensures.1 c.in_err-check_drawing.ensures

pub flips_u-flip_u-requires : goal.flips_u-flip_u-requires
flips_u-flip_u-requires c =
    let a = c.args in
    sign_proper a.self (bad_quad a.self a.quad ∷ []) (sym c.in_ok-check_drawing.ensures)

pub tex_pairs-requires : goal.tex_pairs-requires
tex_pairs-requires c =
    let a = c.args in
    let d = quad_within_bounds a.self a.quad [] (sym c.in_ok-check_drawing.ensures) in
    (omega arith, omega arith)

pub returns : goal.returns
unfolding quad_textures
returns c =
    let a = c.args in
    value_given (quad_checks a.self a.quad) _ c.in_ok-check_drawing.ensures (rw (c.tex_pairs.ensures, c.flips_u-flip_u.ensures))
