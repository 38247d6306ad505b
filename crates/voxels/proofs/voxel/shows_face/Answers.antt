-- `shows_face` meets its contract: its tests are the rule's, one by one.
use Rattle.voxels.proofs.Voxels.{empty_hides, shows_to_empty, shows_to_translucent, others_hide}
use Rattle.voxels.proofs.voxel.shows_face.Goals as goal

pub returns-then-own-eq-EMPTY : goal.returns-then-own-eq-EMPTY
returns-then-own-eq-EMPTY c = empty_hides _ _ _ c.class-own.ensures c.if-own-eq-EMPTY.true

pub returns-then-other-eq-EMPTY : goal.returns-then-other-eq-EMPTY
returns-then-other-eq-EMPTY c = shows_to_empty _ _ _ c.class-own.ensures c.if-own-eq-EMPTY.false _ c.class-other.ensures c.if-other-eq-EMPTY.true

pub returns-then-other-eq-TRANSLUCENT : goal.returns-then-other-eq-TRANSLUCENT
returns-then-other-eq-TRANSLUCENT c = shows_to_translucent _ _ _ c.class-own.ensures c.if-own-eq-EMPTY.false _ c.class-other.ensures c.if-other-eq-EMPTY.false c.if-other-eq-TRANSLUCENT.true

pub returns : goal.returns
returns c = others_hide _ _ _ c.class-own.ensures c.if-own-eq-EMPTY.false _ c.class-other.ensures c.if-other-eq-EMPTY.false c.if-other-eq-TRANSLUCENT.false
