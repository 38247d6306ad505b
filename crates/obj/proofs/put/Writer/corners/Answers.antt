-- `corners` meets its contract: four lines, one after another.
use mathlib.Core.Path.{◌≡◌, sym, ap}
use Rattle.std.specs.Result.{is_ok}
use Rattle.geometry.specs.Corners.{corners}
use Rattle.obj.specs.Writer.{Room}
use Rattle.obj.proofs.Writer.{wrote_both, wrote_as, room_first, room_second, room_as}
use Rattle.obj.proofs.Given.{one_value, corners_given}
use Rattle.obj.proofs.Lines.{from_third, from_second, four_lines, corners_lines}
use Rattle.obj.proofs.put.Writer.corners.Goals as goal
use Rattle.obj.proofs.put.Writer.corners.Goals.{After-unwrap-corners, After-corner, After-corner-2}

-- What geometry gave are the quad's corners,
is : (c : After-unwrap-corners) → c.unwrap-corners.result ≡ corners c.args.quad.face c.args.quad.quad
is c = one_value c.unwrap-corners.ensures (corners_given c.args.quad c.quad_corners.ensures)

-- and there is room for their four lines,
room : (c : After-unwrap-corners) → Room (four_lines c.unwrap-corners.result) c.args.self.now
room c = room_as (corners_lines c.args.quad (is c)) c.requires

-- after the first for the others,
after_first : (c : After-corner) → Room (from_second c.unwrap-corners.result) c.corner.new.self
after_first c = room_second _ (room (goal.at.After-corner c).After-unwrap-corners) c.corner.ensures

-- and after the second for the last two.
after_second : (c : After-corner-2) → Room (from_third c.unwrap-corners.result) c.corner-2.new.self
after_second c = room_second _ (after_first (goal.at.After-corner-2 c).After-corner) c.corner-2.ensures

pub unwrap-corners-requires : goal.unwrap-corners-requires
unwrap-corners-requires c = ap is_ok (corners_given c.args.quad c.quad_corners.ensures)

pub corner-requires : goal.corner-requires
corner-requires c = room_first _ (room (goal.at.corner-requires c).After-unwrap-corners)

pub corner-requires-2 : goal.corner-requires-2
corner-requires-2 c = room_first _ (after_first (goal.at.corner-requires-2 c).After-corner)

pub corner-requires-3 : goal.corner-requires-3
corner-requires-3 c = room_first _ (after_second (goal.at.corner-requires-3 c).After-corner-2)

pub corner-requires-4 : goal.corner-requires-4
corner-requires-4 c = room_second _ (after_second (goal.at.corner-requires-4 c).After-corner-2) c.corner-3.ensures

pub returns : goal.returns
returns c = wrote_as (sym (corners_lines c.args.quad (is (goal.at.returns c).After-unwrap-corners))) (wrote_both c.corner.ensures (wrote_both c.corner-2.ensures (wrote_both c.corner-3.ensures c.corner-4.ensures)))
