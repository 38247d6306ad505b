-- `triangle` meets its contract: a line that starts with `f` and a space.
use mathlib.Core.Path.{sym}
use Rattle.obj.specs.Text.{f}
use Rattle.obj.proofs.Writer.{wrote_as, room_as}
use Rattle.obj.proofs.Measured.{line_bytes}
use Rattle.obj.proofs.put.Writer.triangle.Goals as goal

pub line-requires : goal.line-requires
line-requires c = room_as (line_bytes f _ _ _) c.requires.room

pub returns : goal.returns
returns c = wrote_as (sym (line_bytes f _ _ _)) c.line.ensures
