-- Six faces from twelve numbers, for each face its sign and its permutation's number (include/spunmarrow.h). A permutation's number outside 0 to 5 is refusal 17, with the first such
-- face's number as place.
use Rattle.std.specs.Prelude.{List, [], ◌∷◌, ℕ, ◌+◌, ◌*◌, ℤ, pos, negsuc, get_or, true}
use Rattle.geometry.specs.declared.axis.AxisPermutation.{AxisPermutation}
use Rattle.geometry.specs.declared.axis.AxisPermutation.TheVariants.{Xyz}
use Rattle.geometry.specs.declared.face.OrientedBlockFace.{OrientedBlockFace}
use Rattle.geometry.specs.Axes.{permutations, no_permutation}
use Rattle.geometry.specs.Refusal.{Answer, Check, answer, at_place0, at_place}
use Rattle.voxels.specs.Extent.{up_to}
use Rattle.spunmarrow.specs.Numbers.{face}

-- Refusal 17 of a signed number: no permutation has it. None has a number below 0.
abbrev pub no_signed : ℤ → Check
no_signed (pos k) = no_permutation k
no_signed (negsuc k) = at_place0 17 true

-- The permutation of a signed number. (Xyz stands where there is none, and is never given.)
abbrev pub signed_or : ℤ → AxisPermutation
signed_or (pos k) = get_or permutations k Xyz
signed_or (negsuc k) = Xyz

-- The same, or refusal 17.
unfoldable pub signed_permutation : ℤ → Answer AxisPermutation
signed_permutation z = answer (no_signed z ∷ []) (signed_or z)

-- The sign of the k-th face among twelve numbers.
abbrev pub sign_at : List ℤ → ℕ → ℤ
sign_at numbers k = get_or numbers (k * 2) (pos 0)

-- And its permutation's number.
abbrev pub number_at : List ℤ → ℕ → ℤ
number_at numbers k = get_or numbers (k * 2 + 1) (pos 0)

-- Refusal 17 of the k-th face, which is its place.
abbrev pub bad_number : List ℤ → ℕ → List Check
bad_number numbers k = at_place k (no_signed (number_at numbers k)) ∷ []

-- Refusal 17 of six faces.
unfoldable pub bad_numbers : List ℤ → List Check
bad_numbers numbers = up_to 0 6 (bad_number numbers)

-- The k-th face.
unfoldable pub face_at : List ℤ → ℕ → OrientedBlockFace
face_at numbers k = face (sign_at numbers k) (signed_or (number_at numbers k))

-- Six faces.
unfoldable pub faces_of : List ℤ → List OrientedBlockFace
faces_of numbers = face_at numbers 0 ∷ face_at numbers 1 ∷ face_at numbers 2 ∷ face_at numbers 3 ∷ face_at numbers 4 ∷ face_at numbers 5 ∷ []
