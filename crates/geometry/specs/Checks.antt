-- What geometry's calls on a face check: document 01, 'Refusal numbers', 6 and 12 to 14. "Geometry calls check 6 (place 0), then 12, then 13 or 14. A call
-- checks only what it is given: indices take no quad." Each refusal is a definition, and each order a list of them. The Rust has none.
use Rattle.std.specs.Prelude.{Bool, true, false, not, ◌||◌, List, [], ◌∷◌, ℕ, ltb, ℤ, Float}
use Rattle.std.specs.Float.{nan, inf, fin}
use Rattle.geometry.specs.declared.quad.UnorientedQuad.{UnorientedQuad}
use Rattle.geometry.specs.declared.face.OrientedBlockFace.{OrientedBlockFace}
use Rattle.geometry.specs.declared.face.VertexIndex.{VertexIndex}
use Rattle.geometry.specs.Axes.{same, one, minus_one, axes_of}
use Rattle.geometry.specs.Quad.{within_limits}
use Rattle.geometry.specs.Refusal.{Check, at_place0}

-- ---- the refusals

-- Whether a sign is 1 or -1.
unfoldable pub proper_sign : ℤ → Bool
proper_sign s = same s one || same s minus_one

-- Refusal 6: "a face's sign is neither 1 nor -1".
abbrev pub bad_sign : OrientedBlockFace → Check
bad_sign f = at_place0 6 (not (proper_sign f.n_sign))

-- Refusal 12: "quad outside the limits below", which go by the face's own u and v.
abbrev pub bad_quad : OrientedBlockFace → UnorientedQuad → Check
bad_quad f q = at_place0 12 (not (within_limits (axes_of f.permutation) q))

-- The last first index that leaves room for three more: 2 ^ 32 - 4.
abbrev pub last_start : ℕ
last_start = 4_294_967_292

-- Refusal 13: "first index above 4,294,967,292".
abbrev pub bad_start : VertexIndex → Check
bad_start s = at_place0 13 (ltb last_start s.0)

-- Whether a float is NaN or infinite.
unfoldable pub not_finite : Float → Bool
not_finite nan = true
not_finite (inf s) = true
not_finite (fin s m e) = false

-- Refusal 14: "voxel size NaN or infinite". A finite size whose product is infinite is not refused.
abbrev pub bad_size : Float → Check
bad_size size = at_place0 14 (not_finite size)

-- ---- the orders

-- Of a call on a face alone: 6.
abbrev pub face_checks : OrientedBlockFace → List Check
face_checks f = bad_sign f ∷ []

-- Of a call on a face and a quad: 6, then 12.
abbrev pub quad_checks : OrientedBlockFace → UnorientedQuad → List Check
quad_checks f q = bad_sign f ∷ bad_quad f q ∷ []

-- Of a call on a face and a first index: 6, then 13.
abbrev pub index_checks : OrientedBlockFace → VertexIndex → List Check
index_checks f s = bad_sign f ∷ bad_start s ∷ []

-- Of a call on a face, a quad and a voxel size: 6, then 12, then 14.
abbrev pub position_checks : OrientedBlockFace → UnorientedQuad → Float → List Check
position_checks f q size = bad_sign f ∷ bad_quad f q ∷ bad_size size ∷ []
