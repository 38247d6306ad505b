-- What geometry's calls give of a quad that can be drawn: its corners and its vertex numbers, and no refusal.
use mathlib.Core.Path.{◌≡◌, ◌∙◌}
use Prim.Native.Nat.{◌*◌}
use Rattle.std.specs.declared.result.Result.{Result}
use Rattle.std.specs.declared.result.Result.TheVariants.{Ok}
use Rattle.geometry.specs.declared.face.QuadIndices.{QuadIndices}
use Rattle.geometry.specs.declared.refusal.Refusal.{Refusal}
use Rattle.geometry.specs.Answers.{meaning}
use Rattle.geometry.specs.Corners.{QuadCorners, corners, quad_corners}
use Rattle.geometry.specs.Vertices.{vertex, quad_indices}
use Rattle.geometry.proofs.One.{meaning_one}
use Rattle.obj.specs.declared.mesh.Quad.{Quad}
use Rattle.obj.specs.Text.{indices_at}
use Rattle.obj.specs.Writer.{on}
use Rattle.obj.proofs.Quads.{quad_given}

-- A value that is given twice is one.
pub one_value : {A : Type 0} {r : Result A Refusal} {a b : A} → r ≡ Ok a → r ≡ Ok b → a ≡ b
one_value e h = cc

module _ (q : Quad) where
  -- The corners,
  pub corners_given : {r : Result QuadCorners Refusal} → meaning r ≡ quad_corners q.face q.quad → r ≡ Ok (corners q.face q.quad)
  corners_given {r} told = meaning_one r (Ok (corners q.face q.quad)) (told ∙ (quad_given q.number (on q.face q.quad) q.drawable.proper q.drawable.within q.few).corners_given)

  -- and the vertex numbers.
  pub indices_given : {r : Result QuadIndices Refusal} → meaning r ≡ quad_indices q.face (vertex (4 * q.number)) → r ≡ Ok (indices_at q.number (on q.face q.quad))
  indices_given {r} told = meaning_one r (Ok (indices_at q.number (on q.face q.quad))) (told ∙ (quad_given q.number (on q.face q.quad) q.drawable.proper q.drawable.within q.few).indices_given)
