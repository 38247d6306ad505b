-- `quad_from` meets its contract: each number is the list's, and 0 past its end.
use Rattle.greedy.specs.Call.{quad_from}
use Rattle.writing.proofs.handed.quad_from.Goals as goal

pub returns : goal.returns
unfolding quad_from
returns c = rw (c.number-x.ensures, c.number-y.ensures, c.number-z.ensures, c.number-width.ensures, c.number-height.ensures)
