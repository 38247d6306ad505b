-- `quad` meets its contract: the lines of its corners, and then those of its triangles.
use mathlib.Core.List.{◌++◌}
use mathlib.Core.Path.{sym}
use Rattle.obj.specs.Text.{bytes_of, corner_lines, triangle_lines}
use Rattle.obj.specs.Writer.{Room, on}
use Rattle.obj.proofs.Writer.{wrote_both, wrote_as, room_first, room_second, room_as}
use Rattle.obj.proofs.Measured.{quad_cut_in_two}
use Rattle.obj.proofs.put.Writer.quad.Goals as goal
use Rattle.obj.proofs.put.Writer.quad.Goals.{Start}

-- There is room for both.
room : (c : Start) → let q = c.args.quad in Room (bytes_of (corner_lines (on q.face q.quad)) ++ bytes_of (triangle_lines q.number (on q.face q.quad))) c.args.self.now
room c = room_as (quad_cut_in_two _ _) c.requires

pub corners-requires : goal.corners-requires
corners-requires c = room_first _ (room (goal.at.corners-requires c).Start)

pub triangles-requires : goal.triangles-requires
triangles-requires c = room_second _ (room (goal.at.triangles-requires c).Start) c.corners.ensures

pub returns : goal.returns
returns c = wrote_as (sym (quad_cut_in_two _ _)) (wrote_both c.corners.ensures c.triangles.ensures)
