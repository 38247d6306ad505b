-- `fits` meets its contract: the bound on a text's length decides, or what is measured.
use Rattle.std.proofs.Common.{rules}
use mathlib.Core.Path.{◌≡◌, sym, ◌∙◌}
use Prim.Native.Nat.{◌+◌, ◌*◌, ◌≤◌}
use native.Mathlib.Omega.{arith}
use lib.ListN.{length}
use borrow.Author.Tests.{le-leb}
use Rattle.writing.specs.Handed.{most_quads}
use Rattle.writing.proofs.Ordered.{order_passed}
use Rattle.obj.specs.Obj.{obj_text}
use Rattle.obj.proofs.Lengths.{handed_at_most}
use Rattle.obj.proofs.measure.fits.Goals as goal
use Rattle.obj.proofs.measure.fits.Goals.{Start}

-- There are not too many quads,
few : (c : Start) → c.args.mesh.now.all ≤ most_quads
few c = let m = c.args.mesh.now in rw m.summed (order_passed _ _ _ _ m.passed).few

-- and the text is at most so long.
bound : (c : Start) → let m = c.args.mesh.now in length (obj_text m.faces m.counts m.quads.now) ≤ 7 + 138 * m.all
bound c =
    let m = c.args.mesh.now in
    let six_faces : length m.faces ≡ 6 = search rules in
    let six_counts : length m.counts ≡ 6 = search rules in
    rw m.summed (handed_at_most m.faces m.counts m.quads.now (six_faces ∙ sym six_counts) m.passed)

pub overflow_mul-most : goal.overflow_mul-most
overflow_mul-most c = record { fits = omega (arith, few (goal.at.overflow_mul-most c).Start) }

pub overflow_add-most : goal.overflow_add-most
overflow_add-most c = record { fits = omega (arith, few (goal.at.overflow_add-most c).Start) }

pub returns-then-most-room : goal.returns-then-most-room
returns-then-most-room c =
    let m = c.args.mesh.now in
    sym (le-leb (length (obj_text m.faces m.counts m.quads.now)) c.args.room (omega (arith, bound (goal.at.returns-then-most-room c).Start, c.if-most-room.true)))
