-- `push` meets its contract: the three numbers are an item's.
use native.Mathlib.Omega.{arith}
use Rattle.listing.proofs.Pushed.{put_pushed}
use Rattle.simple.specs.Unit.{unit_numbers, numbers_of}
use Rattle.simple.proofs.Outcome.{three}
use Rattle.simple.proofs.list.push.Goals as goal

pub returns : goal.returns
returns c = put_pushed unit_numbers numbers_of (omega arith) three _ _ _ c.push.ensures
