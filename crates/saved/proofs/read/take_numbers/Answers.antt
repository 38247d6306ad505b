-- `take_numbers` meets its contract: what is taken and what is left are all of it.
use Rattle.std.proofs.Common.{◌+◌, ◌*◌, ◌-◌, length, drop, refl, sym}
use native.Mathlib.Nat.{sub-zero}
use Rattle.std.proofs.lemmas.List.{take_rest}
use Rattle.saved.specs.Bytes.{number32, read_all}
use Rattle.saved.proofs.Items.{read_length}
use Rattle.saved.proofs.Pieces.{numbers_next}
use Rattle.saved.proofs.Filling.{filled_start, filled_one}
use Rattle.saved.proofs.read.take_numbers.Goals as goal

pub loop-k-init : goal.loop-k-init
loop-k-init c = rw sub-zero (filled_start refl (sym (read_length 4 number32 (length c.args.out.now) c.args.bytes.now)))

pub loop-k-preserved : goal.loop-k-preserved
loop-k-preserved c =
    let b = c.args.bytes.now in
    let k = c.loop-k.k in
    let n = length c.args.out.now in
    rw (c.get.ensures, take_rest) (filled_one c.loop-k.invariant (number32 (drop (4 * k) b)) (read_all 4 number32 (n - (k + 1)) (drop (4 * (k + 1)) b)) (numbers_next b k n c.loop-k-test.true))
