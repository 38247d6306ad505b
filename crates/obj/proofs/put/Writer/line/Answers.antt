-- `line` meets its contract: its start and its three numbers are written one after another.
use mathlib.Core.List.{◌++◌}
use Rattle.obj.specs.Text.{space, line_feed}
use Rattle.obj.specs.Writer.{Room, ended}
use Rattle.obj.proofs.Writer.{wrote_both, room_first, room_second}
use Rattle.obj.proofs.put.Writer.line.Goals as goal
use Rattle.obj.proofs.put.Writer.line.Goals.{After-bytes, After-number}

-- After its start there is room for the numbers,
after_start : (c : After-bytes) → Room (ended c.args.a space ++ (ended c.args.b space ++ ended c.args.c line_feed)) c.bytes.new.self
after_start c = room_second _ c.requires c.bytes.ensures

-- and after the first for the others.
after_first : (c : After-number) → Room (ended c.args.b space ++ ended c.args.c line_feed) c.number.new.self
after_first c = room_second _ (after_start (goal.at.After-number c).After-bytes) c.number.ensures

pub number-requires : goal.number-requires
number-requires c = room_first _ (after_start (goal.at.number-requires c).After-bytes)

pub number-requires-2 : goal.number-requires-2
number-requires-2 c = room_first _ (after_first (goal.at.number-requires-2 c).After-number)

pub number-requires-3 : goal.number-requires-3
number-requires-3 c = room_second _ (after_first (goal.at.number-requires-3 c).After-number) c.number-2.ensures

pub returns : goal.returns
returns c = wrote_both c.bytes.ensures (wrote_both c.number.ensures (wrote_both c.number-2.ensures c.number-3.ensures))
