-- `push` meets its contract: the quad's numbers are an item's.
use Rattle.std.proofs.Common.{arith, ap}
use Rattle.listing.specs.Pushed.{Output}
use Rattle.listing.proofs.Pushed.{put_pushed}
use Rattle.greedy.specs.Greedy.{quad_numbers, numbers_of}
use Rattle.greedy.proofs.Outcome.{numbers_length}
use Rattle.greedy.proofs.Mesher.push.Goals as goal

pub returns-clause-pushed : goal.returns-clause-pushed
returns-clause-pushed c =
    let s = c.args.self.now in
    let put = put_pushed quad_numbers numbers_of (omega arith) numbers_length _ _ _ c.push.ensures in
    ap (λ (o : Output). record { marks = s.visited.now; output = o; tests = s.tests }) put
