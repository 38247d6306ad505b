-- For private contracts: what the code goes by of a file, from a byte on.
use Rattle.std.specs.Prelude.{Bool, ◌&&◌, List, ◌++◌, map, ◌≡◌, ℕ, ◌+◌, ◌-◌, ◌*◌, ◌≤◌, length, take, drop}
use Rattle.geometry.specs.declared.quad.UnorientedQuad.{UnorientedQuad}
use Rattle.geometry.specs.declared.face.OrientedBlockFace.{OrientedBlockFace}
use Rattle.geometry.specs.Quad.{side_within_limits}
use Rattle.geometry.specs.Refusal.{accepted, Check, checked}
use Rattle.listing.specs.Cut.{items_in}
use Rattle.greedy.specs.Call.{quad_from}
use Rattle.writing.specs.Handed.{on_face, oriented, numbered, bad_quad_at}
use Rattle.saved.specs.declared.form.SavedForm.{SavedForm}
use Rattle.saved.specs.Bytes.{number32, read_all}
use Rattle.saved.specs.Form.{Form, quad_size, face_byte}
use Rattle.saved.specs.Layout.{section_bytes, group_bytes}
use Rattle.saved.specs.Read.{quad_in, section_checks, groups_in}

-- The form that the code is handed.
abbrev pub form_of : SavedForm → Form
form_of form = record { numbers = form.numbers; mark = form.mark.now }

-- ---- reading

-- The quad that some bytes begin with: of their first five numbers.
abbrev pub quad_of : List ℕ → UnorientedQuad
quad_of b = quad_from (read_all 4 number32 5 b)

-- Whether it is within the limits, by its numbers where they stand: those of its minimum along u and v stand so many bytes on (proofs/Limits.antt, `fits_limits`).
unfoldable pub fits_in : List ℕ → ℕ → ℕ → Bool
fits_in b u v =
    side_within_limits (number32 b) 1
    && side_within_limits (number32 (drop 4 b)) 1
    && side_within_limits (number32 (drop 8 b)) 1
    && side_within_limits (number32 (drop u b)) (number32 (drop 12 b))
    && side_within_limits (number32 (drop v b)) (number32 (drop 16 b))

-- Refusal 12 of so many quads that some bytes begin with, of so many numbers each, on a face, the first of them the file's quad k.
abbrev pub bad_quads_of : ℕ → OrientedBlockFace → ℕ → ℕ → List ℕ → List Check
bad_quads_of numbers face k n b = numbered bad_quad_at k (on_face face (map quad_from (read_all (quad_size numbers) (quad_in numbers) n b)))

-- And of the quads of n sections that they begin with, on some faces, the first quad of them the file's quad k.
abbrev pub bad_groups_of : ℕ → List OrientedBlockFace → ℕ → ℕ → List ℕ → List Check
bad_groups_of numbers faces k n b = numbered bad_quad_at k (oriented faces (map (map quad_from) (groups_in numbers n b)))

-- Where a walk over the sections of quads stands: k of the six are done, and 16 refuses none of those that are left.
pub record Walk (numbers k : ℕ) (b : List ℕ) : Type 0 where
  pub most : k ≤ 6
  pub whole : checked (section_checks (quad_size numbers) (k + 1) (6 - k) b) ≡ accepted tt

-- ---- writing

-- Section 0 of a form with that mark.
abbrev pub head_bytes : List ℕ → List OrientedBlockFace → List ℕ
head_bytes mark faces = section_bytes (6 + length mark) (map face_byte faces ++ mark)

-- The section of a group: so many quads of a list, after so many of the groups before.
abbrev pub group_at : ℕ → List ℕ → ℕ → ℕ → List ℕ
group_at numbers list first count = group_bytes (items_in numbers (take numbers) count (drop (first * numbers) list))
