-- `shown` meets its contract: of two classes the higher shows to the lower.
use mathlib.Core.Path.{◌∙◌}
use Rattle.simple.proofs.Neighbours.{shown_by_test}
use Rattle.simple.proofs.count.shown.Goals as goal

pub returns : goal.returns
returns c = let a = c.args in c.from.ensures ∙ shown_by_test a.voxel a.neighbor c.requires c.class-2.ensures c.class.ensures
