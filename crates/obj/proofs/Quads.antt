-- A quad's lines have what geometry's calls give for it, and its triangles refer to its own vertices.
use mathlib.Core.Bool.{Bool, true, false}
use mathlib.Core.List.{[], ◌∷◌}
use mathlib.Core.Path.{◌≡◌}
use Prim.Native.Nat.{ℕ, ◌*◌, ◌<◌}
use native.Mathlib.Omega.{arith}
use lib.IntN.{◌*ℤ◌}
use Rattle.geometry.specs.Axes.{positive, permutation_sign}
use Rattle.geometry.specs.Checks.{proper_sign}
use Rattle.geometry.specs.Vertices.{vertex, indices}
use Rattle.geometry.specs.Lists.{Each}
use Rattle.geometry.proofs.Drawn.{drawn}
use Rattle.writing.specs.Handed.{OrientedQuad, most_quads}
use Rattle.writing.specs.Statements.{WithinQuad}
use Rattle.obj.specs.Text.{Line, first_triangle, second_triangle, triangle_line}
use Rattle.obj.specs.Statements.{QuadGiven, RefersTo, FacesRefer}

-- Where the sign is proper and the quad within the limits geometry's calls give its corners, and the last first index of a quad that is not too many leaves room for its vertices.
pub quad_given : (k : ℕ) (q : OrientedQuad) → proper_sign q.face.n_sign ≡ true → WithinQuad q → k < most_quads → QuadGiven k q
quad_given k q proper within few =
    let d = drawn q.face q.quad proper within in
    record { corners_given = d.corners_given; indices_given = d.indices_given (vertex (4 * k)) (omega arith) }

-- On whichever side of its face it winds a quad's triangles refer to its own four vertices.
wound_refer : (positively : Bool) (k : ℕ) → Each (λ (l : Line). Each (RefersTo k) l.numbers) (triangle_line (first_triangle (indices positively (4 * k))) ∷ triangle_line (second_triangle (indices positively (4 * k))) ∷ [])
unfolding Each
wound_refer true k = (((omega arith, omega arith), ((omega arith, omega arith), ((omega arith, omega arith), tt))), (((omega arith, omega arith), ((omega arith, omega arith), ((omega arith, omega arith), tt))), tt))
wound_refer false k = (((omega arith, omega arith), ((omega arith, omega arith), ((omega arith, omega arith), tt))), (((omega arith, omega arith), ((omega arith, omega arith), ((omega arith, omega arith), tt))), tt))

pub faces_refer : (k : ℕ) (q : OrientedQuad) → FacesRefer k q
faces_refer k q = wound_refer (positive (q.face.n_sign *ℤ permutation_sign q.face.permutation)) k
