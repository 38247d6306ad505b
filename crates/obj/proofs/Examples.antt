-- The worked examples hold of the rules: each side of each row is computed.
use mathlib.Core.Path.{refl}
use Rattle.geometry.specs.Refusal.{answer}
use Rattle.geometry.specs.Point.{along, put, moved}
use Rattle.geometry.specs.Axes.{same}
use Rattle.geometry.specs.Checks.{proper_sign}
use Rattle.geometry.specs.Quad.{minimum_within_limits, side_within_limits, within_limits}
use Rattle.geometry.specs.Corners.{base, corner}
use Rattle.geometry.specs.Lists.{Each}
use Rattle.voxels.specs.Checks.{bad_faces_from}
use Rattle.listing.specs.Listing.{joined, overwritten, capacity}
use Rattle.listing.specs.Cut.{items_in, groups_in}
use Rattle.greedy.specs.Call.{quad_from}
use Rattle.digits.specs.Decimal.{digits_within, digits}
use Rattle.writing.specs.Handed.{oriented, numbered, handed, total, handed_checks}
use Rattle.writing.specs.Written.{written_after}
use Rattle.obj.specs.Text.{spaced, bytes, quad_text, text}
use Rattle.obj.specs.Obj.{write_obj}
use Rattle.obj.specs.Examples.{line, Holds, examples}

pub examples_hold : Each Holds examples
unfolding examples line Each write_obj written_after overwritten handed_checks answer total capacity bad_faces_from proper_sign same handed oriented groups_in items_in quad_from numbered within_limits minimum_within_limits side_within_limits text quad_text bytes spaced joined digits digits_within base corner along put moved
examples_hold = (refl, (refl, (refl, (refl, (refl, (refl, (refl, (refl, (refl, (refl, (refl, (refl, (refl, (refl, (refl, (refl, tt))))))))))))))))
