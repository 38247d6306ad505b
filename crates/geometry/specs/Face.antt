-- Faces and their normals: document 01, 'Faces'; face.rs lines 5 to 46 and 88 to 91.
use Rattle.std.specs.Prelude.{ℤ, Float}
use Rattle.std.specs.Float.{binary32}
use Rattle.std.specs.Float.Ieee.{of_int}
use Rattle.geometry.specs.declared.vector.IVec3.{IVec3}
use Rattle.geometry.specs.declared.axis.AxisPermutation.{AxisPermutation}
use Rattle.geometry.specs.declared.axis.SignedAxis.{SignedAxis}
use Rattle.geometry.specs.declared.face.OrientedBlockFace.{OrientedBlockFace}
use Rattle.geometry.specs.declared.face.Normal.{Normal}
use Rattle.geometry.specs.declared.face.PerCorner.{PerCorner}
use Rattle.geometry.specs.Point.{unit_vector}
use Rattle.geometry.specs.Axes.{even_with_normal_axis, unsigned_axis, signum, times, n_axis}
use Rattle.geometry.specs.Checks.{face_checks}
use Rattle.geometry.specs.Refusal.{Answer, answer}

-- ---- making a face

-- "Making one refuses by 6, place 0" (face.rs 23 to 33, which takes any sign).
unfoldable pub new_face : ℤ → AxisPermutation → Answer OrientedBlockFace
new_face s p =
    let f : OrientedBlockFace = record { n_sign = s; permutation = p } in
    answer (face_checks f) f

-- "The canonical face of X, Y, Z uses Xyz, Yzx, Zxy", with the signed axis' sign (face.rs 36 to 41). Never refused.
abbrev pub canonical_face : SignedAxis → OrientedBlockFace
canonical_face a = record { n_sign = signum a; permutation = even_with_normal_axis (unsigned_axis a) }

-- ---- normals

-- "The signed normal is the unit vector of n times the sign" (face.rs 44 to 46).
abbrev pub normal : OrientedBlockFace → IVec3
normal f = times f.n_sign (unit_vector (n_axis f))

-- The signed normal of a face whose sign is proper.
unfoldable pub signed_normal : OrientedBlockFace → Answer IVec3
signed_normal f = answer (face_checks f) (normal f)

-- The f32 nearest to an integer. Each integer from -2 ^ 24 to 2 ^ 24 is one exactly, so every sign, coordinate and side here is cast exactly
-- (proofs/Floats.antt, `exact` and `minus_one_exact`; face.rs 85, 90 and 136 to 155).
abbrev pub as_f32 : ℤ → Float
as_f32 = of_int binary32

-- "As f32 its zeros are plus zero": the f32 of 0 is plus zero (proofs/Floats.antt, `plus_zero`).
abbrev pub normal_as_f32 : IVec3 → Normal
normal_as_f32 v = record { x = as_f32 v.x; y = as_f32 v.y; z = as_f32 v.z }

-- The normals at a quad's corners, by the corner's name.
abbrev pub QuadNormals : Type 0
QuadNormals = PerCorner Normal

-- One normal at each of the four corners (face.rs 89 to 91).
abbrev pub four_normals : Normal → QuadNormals
four_normals n = record { minu_minv = n; maxu_minv = n; minu_maxv = n; maxu_maxv = n }

-- The normals of a quad on a face whose sign is proper.
unfoldable pub quad_normals : OrientedBlockFace → Answer QuadNormals
quad_normals f = answer (face_checks f) (four_normals (normal_as_f32 (normal f)))
