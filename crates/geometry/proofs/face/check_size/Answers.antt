-- `check_size` meets its contract: the library's test is the rule's.
use mathlib.Core.Bool.{not}
use mathlib.Core.List.{[]}
use mathlib.Core.Path.{sym, ap, ◌∙◌}
use Rattle.geometry.specs.Checks.{bad_size}
use Rattle.geometry.proofs.Floats.{finite}
use Rattle.geometry.proofs.Refusals.{applies, passes_alone}
use Rattle.geometry.proofs.face.check_size.Goals as goal

pub returns-then-not-is_finite : goal.returns-then-not-is_finite
returns-then-not-is_finite c = rw c.at.ensures (sym (applies (bad_size c.args.voxel_size) [] _ (finite _ ∙ sym (ap not c.if-not-is_finite.ensures.value))))

pub returns : goal.returns
returns c = sym (passes_alone (bad_size c.args.voxel_size) (finite _ ∙ sym (ap not c.if-not-is_finite.ensures.value)))
