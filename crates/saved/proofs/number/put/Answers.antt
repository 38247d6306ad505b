-- `put` meets its contract: std's bytes of a number are its.
use Rattle.std.proofs.Common.{◌∙◌}
use Rattle.saved.proofs.Numbers.{four_bytes}
use Rattle.saved.proofs.number.put.Goals as goal

pub returns : goal.returns
returns c = c.copy_from_slice.ensures.after ∙ c.to_le_bytes.ensures ∙ four_bytes c.args.n
