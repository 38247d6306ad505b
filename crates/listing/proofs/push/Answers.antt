-- `push` meets its contract: where there is room for the item its numbers are written where it comes to stand, and else nothing is written.
use mathlib.Core.Path.{sym, ◌∙◌}
use Prim.Native.Nat.{◌<◌}
use native.Mathlib.Omega.{arith}
use lib.ListN.{length}
use Rattle.listing.specs.Listing.{capacity}
use Rattle.listing.proofs.Pushed.{set_part, put_room, put_full, put_none, room_enough}
use Rattle.listing.proofs.push.Goals as goal
use Rattle.listing.proofs.push.Goals.{Else-out-numbers}

room : (c : Else-out-numbers) → c.args.listed < capacity (length c.args.item.now) (length c.args.out.now)
unfolding capacity
room c = c.if-out-numbers.false

pub returns-then-numbers-eq0 : goal.returns-then-numbers-eq0
returns-then-numbers-eq0 c = sym (put_none _ _ _ c.if-numbers-eq0.true)

pub returns-then-out-numbers : goal.returns-then-out-numbers
unfolding capacity
returns-then-out-numbers c = sym (put_full _ _ _ c.if-out-numbers.true)

pub returns : goal.returns
returns c =
    let here = room (goal.at.returns c).Else-out-numbers in
    set_part _ _ _ c.copy_from_slice.ensures.after (omega arith) (room_enough _ _ _ here) ∙ sym (put_room _ _ _ here)
