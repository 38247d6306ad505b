-- The meshers' calls (include/spunmarrow.h, 'meshing'). 17 comes before document 01's numbers: then no buffer has changed and all counts are zero.
use Rattle.std.specs.Prelude.{List, [], ◌∷◌, ◌++◌, ℕ, ℤ}
use Rattle.geometry.specs.Refusal.{Answer, accepted, refused, checked}
use Rattle.listing.specs.Outcome.{MeshAnswer, mesh_answer, MeshOutcome}
use Rattle.simple.specs.Unit.{visible_block_faces}
use Rattle.greedy.specs.declared.GreedyMesh.{GreedyMesh}
use Rattle.greedy.specs.Greedy.{GreedyAnswer, greedy_answer, GreedyOutcome, greedy_quads}
use Rattle.spunmarrow.specs.Numbers.{point_of}
use Rattle.spunmarrow.specs.Faces.{bad_numbers, faces_of}

-- An answer's nine numbers: the refusal, or 0 where the call is accepted; its place; the six counts; the tests.
abbrev pub nine : MeshAnswer → ℕ → List ℕ
nine a tests = a.refusal ∷ a.place ∷ a.counts ++ (tests ∷ [])

-- The nine numbers of a report or a refusal.
abbrev pub nine_of : Answer GreedyMesh → List ℕ
nine_of x = let a : GreedyAnswer = greedy_answer x in nine a.mesh a.tests

-- The answer of a refused call.
abbrev pub nine_refused : ℕ → ℕ → List ℕ
nine_refused refusal place = nine (mesh_answer (refused refusal place)) 0

-- All that a call of unit meshing leaves: its answer, and the output at exit.
pub record UnitLeft : Type 0 where
  pub answer : List ℕ
  pub out : List ℕ

-- The outcome of an answer and an output.
abbrev pub unit_left : List ℕ → List ℕ → UnitLeft
unit_left answer out = record { answer = answer; out = out }

-- From what the faces' check says, the outcome of unit meshing, and the output as it was. Unit meshing makes no tests.
abbrev pub unit_after : Answer (Unit {0}) → MeshOutcome → List ℕ → UnitLeft
unit_after (accepted u) o out = unit_left (nine o.answer 0) o.out
unit_after (refused n p) o out = unit_left (nine_refused n p) out

-- The whole outcome of a call of unit meshing: 17, then what `visible_block_faces` leaves.
unfoldable pub unit_call : List ℕ → List ℕ → List ℕ → List ℤ → List ℕ → List ℕ → UnitLeft
unit_call shape min max faces voxels out =
    unit_after (checked (bad_numbers faces)) (visible_block_faces voxels (point_of shape) (point_of min) (point_of max) (faces_of faces) out) out

-- All that a call of greedy meshing leaves: its answer, and the visited bytes and the output at exit.
pub record GreedyLeft : Type 0 where
  pub answer : List ℕ
  pub visited : List ℕ
  pub out : List ℕ

-- The outcome of an answer, visited bytes and an output.
abbrev pub greedy_left : List ℕ → List ℕ → List ℕ → GreedyLeft
greedy_left answer visited out = record { answer = answer; visited = visited; out = out }

-- From what the faces' check says, the outcome of greedy meshing, and the buffers as they were.
abbrev pub greedy_after : Answer (Unit {0}) → GreedyOutcome → List ℕ → List ℕ → GreedyLeft
greedy_after (accepted u) o visited out = greedy_left (nine o.mesh.answer o.tests) o.visited_bytes o.mesh.out
greedy_after (refused n p) o visited out = greedy_left (nine_refused n p) visited out

-- The whole outcome of a call of greedy meshing: 17, then what `greedy_quads` leaves.
unfoldable pub greedy_call : List ℕ → List ℕ → List ℕ → List ℤ → List ℕ → List ℕ → List ℕ → GreedyLeft
greedy_call shape min max faces voxels visited out =
    greedy_after (checked (bad_numbers faces)) (greedy_quads voxels (point_of shape) (point_of min) (point_of max) (faces_of faces) visited out) visited out
