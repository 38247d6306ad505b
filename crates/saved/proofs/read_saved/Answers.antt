-- `read_saved` meets its contract: the reader of quads of five numbers and of no mark.
use Rattle.saved.specs.Saved.{read_saved}
use Rattle.saved.proofs.read_saved.Goals as goal

pub returns : goal.returns
unfolding read_saved
returns c = c.read.ensures
