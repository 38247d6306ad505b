-- `SignedAxis::new` meets its contract: the two tests on the sign's bits are the rule's.
use mathlib.Core.Path.{sym}
use mir.Facts.{to_z-of_z}
use Rattle.geometry.proofs.Signs.{zero_bits, nonzero_bits}
use Rattle.geometry.proofs.Axes.{no_signed_axis, signed_axis_made}
use Rattle.geometry.proofs.axis.SignedAxis.new.Goals as goal

pub returns-then-sign-eq0 : goal.returns-then-sign-eq0
returns-then-sign-eq0 c = rw c.at.ensures (sym (no_signed_axis _ _ (zero_bits _ c.ranges.sign.sfits c.if-sign-eq0.true)))

pub returns : goal.returns
returns c =
    rw (c.toward.ensures, to_z-of_z c.ranges.sign)
    (sym (signed_axis_made _ _ (nonzero_bits _ c.if-sign-eq0.false)))
