-- The whole outcome of greedy meshing: document 01, 'Greedy meshing', and of 'Refusal numbers' what stands below the table. Its groups and their tests are the rules' (crates/rules/specs/Greedy.antt).
use Rattle.std.specs.Prelude.{List, [], ◌∷◌, map, ℕ, length, replicate}
use Rattle.geometry.specs.declared.quad.UnorientedQuad.{UnorientedQuad}
use Rattle.geometry.specs.declared.face.OrientedBlockFace.{OrientedBlockFace}
use Rattle.geometry.specs.Refusal.{Answer, accepted, refused, checked}
use Rattle.geometry.specs.Point.{Point}
use Rattle.voxels.specs.declared.extent.Extent.{Extent}
use Rattle.voxels.specs.Shape.{size, Field, field}
use Rattle.voxels.specs.Extent.{interior}
use Rattle.voxels.specs.Checks.{greedy_checks}
use Rattle.listing.specs.Listing.{overwritten, Laid, at_exit}
use Rattle.listing.specs.Outcome as listing
use Rattle.listing.specs.Outcome.{MeshAnswer, mesh_answer, reported, listed_after, MeshOutcome, listed_outcome}
use Rattle.rules.specs.Greedy.{greedy_group, greedy_tests}
use Rattle.greedy.specs.declared.GreedyMesh.{GreedyMesh}

-- ---- what is listed

-- A quad as it is listed.
pub record Listed : Type 0 where
  pub quad : UnorientedQuad

-- The quad of a group, listed.
abbrev pub listed : UnorientedQuad → Listed
listed q = record { quad = q }

-- How many numbers a listed quad has.
abbrev pub quad_numbers : ℕ
quad_numbers = 5

-- Which they are: "write the quad: minimum x, y, z, width (along u), height (along v)".
abbrev pub numbers_of : Listed → List ℕ
numbers_of l =
    let q : UnorientedQuad = l.quad in
    q.minimum.x ∷ q.minimum.y ∷ q.minimum.z ∷ q.width ∷ q.height ∷ []

-- The group of a face, listed.
abbrev pub listed_group : Extent → Field → OrientedBlockFace → List Listed
listed_group inner v f = map listed (greedy_group inner v f).quads

-- The six groups, listed.
unfoldable pub listed_groups : Extent → Field → List OrientedBlockFace → List (List Listed)
listed_groups inner v faces = map (listed_group inner v) faces

-- ---- the outcome

-- Document 01's answer: what every mesher answers, and "for greedy, the tests summed over the six faces"; 0 where the call was refused.
pub record GreedyAnswer : Type 0 where
  pub mesh : MeshAnswer
  pub tests : ℕ

-- The answer of a report or a refusal: "A refusal gives zeros for all counts", and the tests are zero then too.
abbrev pub greedy_answer : Answer GreedyMesh → GreedyAnswer
greedy_answer (accepted m) = record { mesh = mesh_answer (accepted m.counts); tests = m.tests }
greedy_answer (refused n p) = record { mesh = mesh_answer (refused n p); tests = 0 }

-- All that a call leaves: what every mesher leaves, the tests, and the visited bytes at exit.
pub record GreedyOutcome : Type 0 where
  pub mesh : MeshOutcome
  pub tests : ℕ
  pub visited_bytes : List ℕ

-- The outcome of an answer, of visited bytes and of an output.
abbrev pub outcome : GreedyAnswer → List ℕ → List ℕ → GreedyOutcome
outcome answer bytes out = record { mesh = listing.outcome answer.mesh out; tests = answer.tests; visited_bytes = bytes }

-- The outcome of so many tests, of visited bytes and of what listing leaves. "A refusal gives zeros for all counts", and the tests are zero then too.
abbrev pub listed_with : ℕ → List ℕ → Laid → GreedyOutcome
listed_with tests bytes laid = record { mesh = listed_outcome laid; tests = reported laid.answer tests; visited_bytes = bytes }

-- Greedy meshing of a field's interior after an entry, in a shape of so many voxels: the entry refuses, then 9; otherwise the answer has the number of quads of each group, and "the tests summed over the six faces". Where the entry
-- passes the output holds the listing, as far as it fits, and "the first X·Y·Z visited bytes are 0, the rest unchanged, whatever they held before". (The Rust's own vector is as long as the voxels
-- lent, greedy.rs 98.)
unfoldable pub greedy_from : Answer (Unit {0}) → ℕ → Extent → Field → List OrientedBlockFace → List ℕ → List ℕ → GreedyOutcome
greedy_from entry voxels inner v faces bytes out =
    listed_with (greedy_tests inner v faces) (at_exit entry (overwritten (replicate voxels 0) bytes) bytes) (listed_after entry quad_numbers numbers_of (listed_groups inner v faces) out)

-- The whole outcome of a call: of the block's own field, after 1 to 8.
unfoldable pub greedy_quads : List ℕ → Point → Point → Point → List OrientedBlockFace → List ℕ → List ℕ → GreedyOutcome
greedy_quads voxels shape min max faces bytes out =
    greedy_from (checked (greedy_checks voxels shape min max faces (length bytes))) (size shape) (interior min max) (field shape voxels) faces bytes out
