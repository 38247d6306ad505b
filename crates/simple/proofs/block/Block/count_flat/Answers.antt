-- `count_flat` meets its contract: the run less what lies between the rows is the slice.
use native.Mathlib.Omega.{arith}
use Rattle.simple.proofs.Sixes.{room_less, zeros_room}
use Rattle.simple.proofs.Flat.{flat_long, flat_ready, between_ready, flat_within, flat_counted}
use Rattle.simple.proofs.block.Block.count_flat.Goals as goal

pub count_rows-requires : goal.count_rows-requires
count_rows-requires c =
    let h = c.requires in
    record {
      each = λ f b. between_ready h.flat (h.can.each f b);
      room = zeros_room (omega (arith, (between_ready h.flat (h.can.each 0 (omega arith))).steps.last));
    }

pub count_runs-requires : goal.count_runs-requires
count_runs-requires c =
    let a = c.args in
    let h = c.requires in
    record {
      can = record { each = λ f b. flat_ready h.flat (h.can.each f b); room = room_less h.can.room (flat_long h.flat) };
      within = flat_within h.flat a.self.now a.at.0 c.count_rows.ensures;
    }

pub returns : goal.returns
returns c =
    let a = c.args in
    flat_counted c.requires.flat a.self.now a.at.0 c.count_rows.ensures c.count_runs.ensures
