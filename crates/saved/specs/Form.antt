-- A saved form, what is saved in it, and face bytes: document 02, second request. Another form has "the same sections and refusals" (its ninth request): a form says what differs. The Rust saves nothing.
use Rattle.std.specs.Prelude.{true, false, List, [], ℕ, ◌+◌, ◌-◌, ◌*◌, ◌≤◌, ltb, ℤ, length, get_or}
use Rattle.geometry.specs.declared.axis.AxisPermutation.TheVariants.{Xyz}
use Rattle.geometry.specs.declared.face.OrientedBlockFace.{OrientedBlockFace}
use Rattle.geometry.specs.Axes.{same, one, minus_one, bit, permutations, permutation_number}

-- A form: how many numbers a quad has, and which bytes stand after the six face bytes in section 0.
pub record Form : Type 0 where
  pub numbers : ℕ
  pub mark : List ℕ

-- This request's form: "five 32-bit numbers each", and nothing after the face bytes.
abbrev pub first_form : Form
first_form = record { numbers = 5; mark = [] }

-- A form that the code is made for: quads of five numbers or a few more, and a short mark.
pub record FormFits (numbers : ℕ) (mark : List ℕ) : Type 0 where
  pub five : 5 ≤ numbers
  pub few : numbers ≤ 6
  pub short : length mark ≤ 1

-- How many bytes a quad of so many numbers has.
abbrev pub quad_size : ℕ → ℕ
quad_size numbers = numbers * 4

-- How many records section 0 has: "Section 0 counts 6", and one more for each byte of the form's mark.
unfoldable pub head_count : Form → ℕ
head_count form = 6 + length form.mark

-- What is saved: the faces, and the group of each, a list of quads, which are lists of numbers as they stand in an output.
pub record Mesh : Type 0 where
  pub faces : List OrientedBlockFace
  pub groups : List (List (List ℕ))

-- ---- face bytes

-- "the permutation's number in the order Xyz, Zxy, Yzx, Zyx, Xzy, Yxz (0 to 5), plus 8 if the sign is -1"
unfoldable pub face_byte : OrientedBlockFace → ℕ
face_byte f = permutation_number f.permutation + 8 * bit (same f.n_sign minus_one)

-- A byte without those 8.
unfoldable pub without_sign : ℕ → ℕ
without_sign b = elim (ltb b 8) [ true ↦ b | false ↦ b - 8 ]

-- The sign that they stand for.
unfoldable pub sign_of : ℕ → ℤ
sign_of b = elim (ltb b 8) [ true ↦ one | false ↦ minus_one ]

-- The face of a byte. (Xyz stands where the byte is outside the code, and is never given.)
unfoldable pub face_of : ℕ → OrientedBlockFace
face_of b = record { n_sign = sign_of b; permutation = get_or permutations (without_sign b) Xyz }
