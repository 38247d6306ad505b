-- A quad within the limits, on a face whose sign is proper, can be drawn: none of the checks that the drawing calls ask applies.
use mathlib.Core.Bool.{true, not}
use mathlib.Core.List.{List, [], ◌∷◌}
use mathlib.Core.Path.{◌≡◌, ◌∙◌, ap}
use borrow.Author.Tests.{le-ltb}
use Rattle.geometry.specs.declared.quad.UnorientedQuad.{UnorientedQuad}
use Rattle.geometry.specs.declared.face.OrientedBlockFace.{OrientedBlockFace}
use Rattle.geometry.specs.Refusal.{Check, answer}
use Rattle.geometry.specs.Axes.{axes_of}
use Rattle.geometry.specs.Quad.{within_limits}
use Rattle.geometry.specs.Checks.{proper_sign, bad_sign, bad_quad, bad_start, bad_size, last_start}
use Rattle.geometry.specs.Face.{quad_normals}
use Rattle.geometry.specs.Corners.{quad_corners, quad_positions, quad_position}
use Rattle.geometry.specs.Vertices.{quad_indices}
use Rattle.geometry.specs.Textures.{quad_textures}
use Rattle.geometry.specs.Statements.{Drawn}
use Rattle.geometry.proofs.Refusals.{passes}

module _ (f : OrientedBlockFace) (q : UnorientedQuad) (proper : proper_sign f.n_sign ≡ true) (within : within_limits (axes_of f.permutation) q ≡ true) where
  -- 6 leaves it to what follows,
  past_sign : {A : Type 0} (cs : List Check) (a : A) → answer (bad_sign f ∷ cs) a ≡ answer cs a
  past_sign cs a = passes (bad_sign f) cs a (ap not proper)

  -- and so does 12 after it.
  past_quad : {A : Type 0} (cs : List Check) (a : A) → answer (bad_sign f ∷ bad_quad f q ∷ cs) a ≡ answer cs a
  past_quad cs a = past_sign (bad_quad f q ∷ cs) a ∙ passes (bad_quad f q) cs a (ap not within)

  pub drawn : Drawn f q
  unfolding answer quad_corners quad_textures quad_positions quad_position quad_normals quad_indices
  drawn = record {
    within_limits_lem = within;
    corners_given = past_quad [] _;
    textures_given = λ u_flip_face flip_v. past_quad [] _;
    positions_given = λ size finite. past_quad (bad_size size ∷ []) _ ∙ passes (bad_size size) [] _ finite;
    position_given = λ c size finite. past_quad (bad_size size ∷ []) _ ∙ passes (bad_size size) [] _ finite;
    normals_given = past_sign [] _;
    indices_given = λ s small. past_sign (bad_start s ∷ []) _ ∙ passes (bad_start s) [] _ (le-ltb last_start s.0 small);
  }
