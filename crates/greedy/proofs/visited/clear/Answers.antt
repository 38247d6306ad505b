-- `clear` meets its contract: the first marks are 0, and the others are as they were.
use Rattle.greedy.proofs.Cleared.{cleared}
use Rattle.greedy.proofs.visited.clear.Goals as goal

pub returns : goal.returns
returns c = cleared _ _ c.requires _ (c.fill.ensures.after (λ y e. e))
