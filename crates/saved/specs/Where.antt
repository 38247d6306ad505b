-- Where in a file a refusal of its reader stands, for whoever has to look at the file: 16 where the section's count begins, or for place 7 at the first byte past section 6; 17 at the face byte; 12 at the quad's first byte.
-- Each is said by the bytes from there on. So every file has a byte for every number and place, which is at most the file's length. That it is where the reader finds what it refuses is shown in proofs/Standing.antt.
use Rattle.std.specs.Prelude.{Bool, true, false, ◌||◌, List, ◌≡◌, ℕ, zero, suc, ◌+◌, ◌-◌, ◌*◌, ◌<◌, eqb, ltb, length, drop}
use Rattle.saved.specs.Form.{Form, quad_size}
use Rattle.saved.specs.Read.{count_in, after_section, ends_early, goes_on, wrong_head}

-- ---- of n sections, whose records have so many bytes each

-- The bytes from section k of them on, counted from 0; where there is none, those after the last.
unfoldable pub from_section_in : ℕ → ℕ → ℕ → List ℕ → List ℕ
from_section_in size zero k b = b
from_section_in size (suc n) zero b = b
from_section_in size (suc n) (suc k) b = from_section_in size n k (after_section size b)

-- The bytes from quad q of them on, counted from 0 through all of them; where there is none, those after the last section.
unfoldable pub from_quad_in : ℕ → ℕ → ℕ → List ℕ → List ℕ
from_quad_in size zero q b = b
from_quad_in size (suc n) q b = elim (ltb q (count_in b)) [ true ↦ drop (q * size) (drop 4 b) | false ↦ from_quad_in size n (q - count_in b) (after_section size b) ]

-- ---- of a file whose quads have so many numbers

-- 16: "(place: section, 7 for trailing bytes)". Section 0 begins the file, and the six of quads follow it.
unfoldable pub from_section : ℕ → ℕ → List ℕ → List ℕ
from_section numbers zero b = b
from_section numbers (suc k) b = from_section_in (quad_size numbers) 6 k (after_section 1 b)

-- 17: "the number of the first face byte outside the code". The face bytes follow section 0's count.
abbrev pub from_face : ℕ → List ℕ → List ℕ
from_face k b = drop (4 + k) b

-- 12: "the first bad quad, its number as place".
unfoldable pub from_quad : ℕ → ℕ → List ℕ → List ℕ
from_quad numbers q b = from_quad_in (quad_size numbers) 6 q (after_section 1 b)

-- Any of them. A number that no byte brings about, as 9, stands at the file's start.
unfoldable pub from_refusal : ℕ → ℕ → ℕ → List ℕ → List ℕ
from_refusal numbers n place b =
    elim (eqb n 16) [
      | true ↦ from_section numbers place b
      | false ↦ elim (eqb n 17) [
        | true ↦ from_face place b
        | false ↦ elim (eqb n 12) [ true ↦ from_quad numbers place b | false ↦ b ]
      ]
    ]

-- The byte's number, from 0: how many bytes stand before it. A form's mark is not asked for: section 0's count has it.
unfoldable pub refusal_byte : Form → ℕ → ℕ → List ℕ → ℕ
refusal_byte form n place b = length b - length (from_refusal form.numbers n place b)

-- ---- what is shown of it (proofs/Standing.antt): a refusal's place is the first that is bad, by the bytes from its own byte on

-- A place is the first of which something holds.
pub record First (bad : ℕ → Bool) (place : ℕ) : Type 0 where
  pub here : bad place ≡ true
  pub before : (k : ℕ) → k < place → bad k ≡ false

-- The bytes from a refusal's byte on.
abbrev pub standing : Form → ℕ → ℕ → List ℕ → List ℕ
standing form n place b = drop (refusal_byte form n place b) b

-- Whether 16 refuses section k of n by the bytes from there on: it ends early, or there is none, and bytes follow the last.
unfoldable pub bad_section_in : ℕ → ℕ → ℕ → List ℕ → Bool
bad_section_in size n k b = elim (ltb k n) [ true ↦ ends_early size b | false ↦ goes_on b ]

-- And of a file: section 0, and then the six of quads.
unfoldable pub bad_section : Form → ℕ → List ℕ → Bool
bad_section form zero b = ends_early 1 b || wrong_head form b
bad_section form (suc k) b = bad_section_in (quad_size form.numbers) 6 k b
