-- `numbers` meets its contract: what is written and what is left are all of it.
use Rattle.std.proofs.Common.{◌+◌, drop, get_or, refl, arith}
use Rattle.saved.specs.Bytes.{written32, written_all}
use Rattle.saved.proofs.Numbers.{written_length}
use Rattle.saved.proofs.Filling.{filled_start, filled_part}
use Rattle.saved.proofs.Writing.{items_next, numbers_long}
use Rattle.saved.proofs.write.numbers.Goals as goal

pub loop-k-init : goal.loop-k-init
loop-k-init c = filled_start refl (omega (arith, numbers_long c.args.list.now))

pub loop-k-preserved : goal.loop-k-preserved
loop-k-preserved c =
    let list = c.args.list.now in
    let k = c.loop-k.k in
    filled_part c.loop-k.invariant (written32 (get_or list k 0)) (written_all written32 (drop (k + 1) list)) _ _ (items_next written32 list k 0 c.loop-k-test.true) c.put.ensures
    (omega (arith, written_length 4 (get_or list k 0)))
    (omega (arith, written_length 4 (get_or list k 0)))
