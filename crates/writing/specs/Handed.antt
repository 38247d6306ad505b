-- A mesh that is handed in: document 02, first request. It is six faces, six counts, and one lent list with the groups end to end, as a mesher leaves them: the counts cut the groups out of the list, and what
-- lies behind the last of them is not looked at. "Refusals in order, nothing written: 24, counts that sum to more than the lent list holds (place 0); 6; 12, with the quad's number; 13, more than 1,073,741,823 quads
-- (place 0); 15, output too short (place 0), each given exactly then." 24, 6, 12 and 13 are the list's and stand here, for every writer; 15 is the writer's (Written.antt). The Rust has none of them.
use Rattle.std.specs.Prelude.{List, [], ◌∷◌, ◌++◌, map, ℕ, ◌+◌, ltb, length}
use Rattle.geometry.specs.declared.quad.UnorientedQuad.{UnorientedQuad}
use Rattle.geometry.specs.declared.face.OrientedBlockFace.{OrientedBlockFace}
use Rattle.geometry.specs.Refusal.{Check, at_place0, at_place}
use Rattle.geometry.specs.Checks.{bad_quad}
use Rattle.voxels.specs.Checks.{bad_faces}
use Rattle.listing.specs.Listing.{capacity}
use Rattle.listing.specs.Cut.{groups_in}
use Rattle.greedy.specs.Greedy.{quad_numbers}
use Rattle.greedy.specs.Call.{quad_from}

-- ---- the quads

-- A quad with the face of its group.
pub record OrientedQuad : Type 0 where
  pub face : OrientedBlockFace
  pub quad : UnorientedQuad

-- The quads of a group, all on its face.
abbrev pub on_face : OrientedBlockFace → List UnorientedQuad → List OrientedQuad
on_face face group = map (λ (q : UnorientedQuad). record { face = face; quad = q }) group

-- The quads of a mesh "in group and list order".
unfoldable pub oriented : List OrientedBlockFace → List (List UnorientedQuad) → List OrientedQuad
oriented [] groups = []
oriented (face ∷ faces) [] = []
oriented (face ∷ faces) (group ∷ groups) = on_face face group ++ oriented faces groups

-- What is made of each quad and its number, end to end, the first quad's number being k. A quad's number runs over the whole mesh, and never within a group.
unfoldable pub numbered : {A : Type 0} → (ℕ → OrientedQuad → List A) → ℕ → List OrientedQuad → List A
numbered g k [] = []
numbered g k (q ∷ qs) = g k q ++ numbered g (k + 1) qs

-- The quads that six counts cut out of a list, each of so many numbers, the first five of which are its minimum x, y, z, width and height.
unfoldable pub handed : ℕ → List OrientedBlockFace → List ℕ → List ℕ → List OrientedQuad
handed numbers faces counts list = oriented faces (groups_in numbers quad_from counts list)

-- How many quads the counts claim. No sum wraps: these are numbers of any size.
unfoldable pub total : List ℕ → ℕ
total [] = 0
total (count ∷ counts) = count + total counts

-- ---- the refusals

-- Refusal 24: "counts that sum to more than the lent list holds (place 0)", of a list with room for so many quads.
abbrev pub past_list : ℕ → List ℕ → List Check
past_list room counts = at_place0 24 (ltb room (total counts)) ∷ []

-- Refusal 12 of quad k, whose number is the place. The limits go by its own group's u and v.
abbrev pub bad_quad_at : ℕ → OrientedQuad → List Check
bad_quad_at k q = at_place k (bad_quad q.face q.quad) ∷ []

-- Refusal 12: "12, with the quad's number": the first that is outside the limits.
abbrev pub bad_quads : List OrientedQuad → List Check
bad_quads qs = numbered bad_quad_at 0 qs

-- The most quads whose vertices, counted from 1, have numbers below 2 ^ 32: the last number of quad k is 4k + 4.
abbrev pub most_quads : ℕ
most_quads = 1_073_741_823

-- Refusal 13: "more than 1,073,741,823 quads (place 0)".
abbrev pub many_quads : List ℕ → List Check
many_quads counts = at_place0 13 (ltb most_quads (total counts)) ∷ []

-- ---- the order

-- Of a mesh whose list has so many numbers a quad: 24, 6, 12, 13. 6 looks at all six faces, those of empty groups too.
unfoldable pub handed_checks : ℕ → List OrientedBlockFace → List ℕ → List ℕ → List Check
handed_checks numbers faces counts list =
    past_list (capacity numbers (length list)) counts ++ bad_faces faces ++ bad_quads (handed numbers faces counts list) ++ many_quads counts

-- Of a list as greedy meshing writes it.
abbrev pub listed_checks : List OrientedBlockFace → List ℕ → List ℕ → List Check
listed_checks = handed_checks quad_numbers

-- Of a list of quads of five numbers, whatever greedy meshing writes.
abbrev pub five_checks : List OrientedBlockFace → List ℕ → List ℕ → List Check
five_checks = handed_checks 5
