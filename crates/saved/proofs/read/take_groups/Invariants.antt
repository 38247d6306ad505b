use Rattle.saved.specs.Private.{Walk}
use Rattle.saved.proofs.Filling.{Filled}
use Rattle.saved.proofs.Taking.{numbers_left, counts_left}
use Rattle.saved.proofs.read.take_groups.Given as goal

abbrev pub invariant-loop-count : goal.invariant-loop-count
invariant-loop-count l =
    record {
      walk : Walk l.form.numbers l.count-index l.rest;
      taken : Filled (numbers_left l.form.numbers l.count-index l.rest) l.out l.at (numbers_left l.form.numbers 0 l.bytes);
      counted : Filled (counts_left l.form.numbers l.count-index l.rest) l.count-items l.count-index (counts_left l.form.numbers 0 l.bytes);
    }
