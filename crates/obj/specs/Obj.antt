-- The whole outcome of a call: document 02, first request.
use Rattle.std.specs.Prelude.{List, ℕ}
use Rattle.geometry.specs.declared.face.OrientedBlockFace.{OrientedBlockFace}
use Rattle.greedy.specs.Greedy.{quad_numbers}
use Rattle.writing.specs.Handed.{handed, listed_checks}
use Rattle.writing.specs.Written.{WriteOutcome, written_after}
use Rattle.obj.specs.Text.{text}

-- The text of a mesh that is handed in as greedy meshing writes it.
abbrev pub obj_text : List OrientedBlockFace → List ℕ → List ℕ → List ℕ
obj_text faces counts list = text (handed quad_numbers faces counts list)

-- "Write a greedy mesh as OBJ text". "Refusals in order, nothing written": 24, 6, 12, 13, and 15 by the text's exact length. Where none applies the text stands at the output's start, and "what isn't written stays".
unfoldable pub write_obj : List OrientedBlockFace → List ℕ → List ℕ → List ℕ → WriteOutcome
write_obj faces counts list out = written_after (listed_checks faces counts list) (obj_text faces counts list) out
