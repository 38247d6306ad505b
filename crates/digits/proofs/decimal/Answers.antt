-- `decimal` meets its contract: what `spell` wrote stands at the start of the scratch, and that part is handed back.
use mathlib.Core.Path.{sym, ◌∙◌, ap}
use lib.ListN.{length}
use Rattle.digits.proofs.Written.{spelt_written, part_taken}
use Rattle.digits.proofs.decimal.Goals as goal

pub slice_bounds-result-end : goal.slice_bounds-result-end
slice_bounds-result-end c =
    let e = c.spell-count.ensures in
    spelt_written e ∙ sym (ap length (part_taken _ _ e))

pub returns-clause-result_value : goal.returns-clause-result_value
returns-clause-result_value c = part_taken _ _ c.spell-count.ensures
