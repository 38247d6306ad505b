-- `triangles` meets its contract: two lines, one after the other.
use mathlib.Core.Path.{◌≡◌, sym, ap}
use Rattle.std.specs.Result.{is_ok}
use Rattle.obj.specs.Text.{indices_at}
use Rattle.obj.specs.Writer.{Room, on}
use Rattle.obj.proofs.Writer.{wrote_both, wrote_as, room_first, room_second, room_as}
use Rattle.obj.proofs.Given.{one_value, indices_given}
use Rattle.obj.proofs.Lines.{two_lines, triangles_lines, small_indices}
use Rattle.obj.proofs.put.Writer.triangles.Goals as goal
use Rattle.obj.proofs.put.Writer.triangles.Goals.{After-unwrap-i}

-- What geometry gave are the quad's vertex numbers,
is : (c : After-unwrap-i) → let q = c.args.quad in c.unwrap-i.result ≡ indices_at q.number (on q.face q.quad)
is c = one_value c.unwrap-i.ensures (indices_given c.args.quad c.quad_mesh_indices.ensures)

-- and there is room for the two lines.
room : (c : After-unwrap-i) → Room (two_lines c.unwrap-i.result) c.args.self.now
room c = room_as (triangles_lines c.args.quad (is c)) c.requires

pub unwrap-i-requires : goal.unwrap-i-requires
unwrap-i-requires c = ap is_ok (indices_given c.args.quad c.quad_mesh_indices.ensures)

pub triangle-requires : goal.triangle-requires
triangle-requires c =
    let here = (goal.at.triangle-requires c).After-unwrap-i in
    record { a_bound = (small_indices c.args.quad (is here)).0; room = room_first _ (room here) }

pub triangle-requires-2 : goal.triangle-requires-2
triangle-requires-2 c =
    let here = (goal.at.triangle-requires-2 c).After-unwrap-i in
    record { a_bound = (small_indices c.args.quad (is here)).1; room = room_second _ (room here) c.triangle.ensures }

pub returns : goal.returns
returns c = wrote_as (sym (triangles_lines c.args.quad (is (goal.at.returns c).After-unwrap-i))) (wrote_both c.triangle.ensures c.triangle-2.ensures)
