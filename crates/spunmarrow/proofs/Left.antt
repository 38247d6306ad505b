-- What a mesher's or a writer's call leaves: the check of its faces decides, or the mesher or writer.
use mathlib.Core.List.{List}
use mathlib.Core.Path.{◌≡◌}
use Prim.Native.Nat.{ℕ}
use lib.IntN.{ℤ}
use Rattle.geometry.specs.declared.face.OrientedBlockFace.{OrientedBlockFace}
use Rattle.geometry.specs.Point.{Point}
use Rattle.geometry.specs.Refusal.{Answer, accepted, refused, checked}
use Rattle.listing.specs.Outcome.{mesh_answer, outcome}
use Rattle.simple.specs.Unit.{visible_block_faces}
use Rattle.greedy.specs.declared.GreedyMesh.{GreedyMesh}
use Rattle.greedy.specs.Greedy as greedy
use Rattle.greedy.specs.Greedy.{greedy_answer, greedy_quads}
use Rattle.writing.specs.Written as written
use Rattle.writing.specs.Written.{write_answer}
use Rattle.obj.specs.Obj.{write_obj}
use Rattle.spunmarrow.specs.Numbers.{point_of}
use Rattle.spunmarrow.specs.Faces.{bad_numbers, faces_of}
use Rattle.spunmarrow.specs.Mesh.{nine, nine_of, unit_left, unit_call, greedy_left, greedy_call}
use Rattle.spunmarrow.specs.Write.{counts_of, three, write_left, obj_call}

-- A call of unit meshing.
module _ (shape min max : List ℕ) (faces : List ℤ) (voxels out : List ℕ) where
  -- Faces that are refused leave the output as it was.
  pub unit_refused : {n p : ℕ} → refused n p ≡ checked (bad_numbers faces) → unit_left (nine_of (refused n p)) out ≡ unit_call shape min max faces voxels out
  unfolding unit_call
  unit_refused read = rw (← read)

  -- Otherwise it leaves what unit meshing leaves.
  pub unit_made : (x : Answer (List ℕ)) {s least most : Point} {six : List OrientedBlockFace} {made : List ℕ} → accepted tt ≡ checked (bad_numbers faces)
      → s ≡ point_of shape → least ≡ point_of min → most ≡ point_of max → six ≡ faces_of faces
      → outcome (mesh_answer x) made ≡ visible_block_faces voxels s least most six out
      → unit_left (nine (mesh_answer x) 0) made ≡ unit_call shape min max faces voxels out
  unfolding unit_call
  unit_made x read s least most six meshed = rw (← read, ← s, ← least, ← most, ← six, ← meshed)

-- A call of greedy meshing.
module _ (shape min max : List ℕ) (faces : List ℤ) (voxels visited out : List ℕ) where
  -- Faces that are refused leave the buffers as they were.
  pub greedy_refused : {n p : ℕ} → refused n p ≡ checked (bad_numbers faces) → greedy_left (nine_of (refused n p)) visited out ≡ greedy_call shape min max faces voxels visited out
  unfolding greedy_call
  greedy_refused read = rw (← read)

  -- Otherwise it leaves what greedy meshing leaves.
  pub greedy_made : (x : Answer GreedyMesh) {s least most : Point} {six : List OrientedBlockFace} {marks made : List ℕ} → accepted tt ≡ checked (bad_numbers faces)
      → s ≡ point_of shape → least ≡ point_of min → most ≡ point_of max → six ≡ faces_of faces
      → greedy.outcome (greedy_answer x) marks made ≡ greedy_quads voxels s least most six visited out
      → greedy_left (nine_of x) marks made ≡ greedy_call shape min max faces voxels visited out
  unfolding greedy_call
  greedy_made x read s least most six meshed = rw (← read, ← s, ← least, ← most, ← six, ← meshed)

-- A call that writes a mesh as OBJ text.
module _ (faces : List ℤ) (counts list out : List ℕ) where
  -- Faces that are refused leave the output as it was.
  pub obj_refused : {n p : ℕ} → refused n p ≡ checked (bad_numbers faces) → write_left (three (write_answer (refused n p))) out ≡ obj_call faces counts list out
  unfolding obj_call
  obj_refused read = rw (← read)

  -- Otherwise it leaves what the writer leaves.
  pub obj_made : (x : Answer ℕ) {six : List OrientedBlockFace} {cs : List ℕ} {made : List ℕ} → accepted tt ≡ checked (bad_numbers faces)
      → six ≡ faces_of faces → cs ≡ counts_of counts → written.outcome (write_answer x) made ≡ write_obj six cs list out
      → write_left (three (write_answer x)) made ≡ obj_call faces counts list out
  unfolding obj_call
  obj_made x read six cs wrote = rw (← read, ← six, ← cs, ← wrote)
