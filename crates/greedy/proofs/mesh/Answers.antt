-- `mesh` meets its contract: what the groups leave is what meshing leaves, with the marks cleared again.
use mathlib.Core.Path.{refl}
use Rattle.geometry.proofs.Answers.{handed_on}
use Rattle.listing.specs.Listing.{capacity}
use Rattle.greedy.proofs.Outcome.{many_left, all_left}
use Rattle.greedy.proofs.mesh.Goals as goal

pub returns-in_err-counts : goal.returns-in_err-counts
unfolding capacity
returns-in_err-counts c =
    rw (handed_on c.from_residual.result c.in_err-counts.field-0.0 c.from_residual.ensures.1)
    (many_left c.mesh_faces-meshed.ensures c.requires.size_value refl c.clear.ensures c.in_err-counts.ensures)

pub returns : goal.returns
unfolding capacity
returns c = all_left c.mesh_faces-meshed.ensures c.requires.size_value refl c.clear.ensures c.in_ok-counts.ensures
