-- `mesh` meets its contract: what the groups leave is what laying them leaves.
use mathlib.Core.Path.{refl, ap}
use native.Mathlib.Omega.{arith}
use Rattle.listing.specs.Listing.{capacity}
use Rattle.listing.specs.Outcome.{mesh_answer, listed_after}
use Rattle.listing.proofs.Outcome.{made_outcome}
use Rattle.simple.specs.Unit.{unit_numbers, numbers_of, unit_from}
use Rattle.simple.proofs.Outcome.{three}
use Rattle.simple.proofs.mesh.Goals as goal

pub returns : goal.returns
unfolding capacity unit_from listed_after
returns c = made_outcome unit_numbers numbers_of (omega arith) three c.mesh_faces-meshed.ensures refl (ap mesh_answer c.answered.ensures)
