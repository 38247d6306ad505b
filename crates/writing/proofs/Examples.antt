-- The worked examples hold of the rules: each side of each row is computed.
use mathlib.Core.Path.{refl}
use Rattle.geometry.specs.Point.{along}
use Rattle.geometry.specs.Axes.{same}
use Rattle.geometry.specs.Quad.{minimum_within_limits, side_within_limits, within_limits}
use Rattle.geometry.specs.Refusal.{answer}
use Rattle.geometry.specs.Checks.{proper_sign}
use Rattle.geometry.specs.Lists.{Each}
use Rattle.voxels.specs.Checks.{bad_faces_from}
use Rattle.listing.specs.Listing.{overwritten, capacity}
use Rattle.listing.specs.Cut.{items_in, groups_in}
use Rattle.greedy.specs.Call.{quad_from}
use Rattle.writing.specs.Handed.{oriented, numbered, handed, total, handed_checks}
use Rattle.writing.specs.Written.{written_after}
use Rattle.writing.specs.Examples.{Answers, meshes, Leaves, writings}

pub meshes_hold : Each Answers meshes
unfolding meshes Each handed_checks handed oriented numbered total groups_in items_in quad_from capacity bad_faces_from within_limits minimum_within_limits side_within_limits proper_sign same along answer
meshes_hold = (refl, (refl, (refl, (refl, (refl, (refl, (refl, (refl, (refl, (refl, (refl, (refl, (refl, (refl, (refl, (refl, (refl, (refl, (refl, (refl, tt))))))))))))))))))))

pub writings_hold : Each Leaves writings
unfolding writings Each written_after overwritten answer
writings_hold = (refl, (refl, (refl, (refl, (refl, tt)))))
