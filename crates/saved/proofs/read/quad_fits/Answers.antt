-- `quad_fits` meets its contract: its five tests are the rule's, each of numbers where they stand.
use Rattle.std.proofs.Common.{◌≡◌, ℕ, ◌-◌, Bool, List, length, take, drop, refl, ◌∙◌}
use Rattle.std.proofs.lemmas.List.{take_rest}
use Rattle.geometry.specs.Quad.{side_within_limits}
use Rattle.saved.specs.Bytes.{number32}
use Rattle.saved.specs.Private.{fits_in}
use Rattle.saved.proofs.read.quad_fits.Goals as goal

-- A number that is read from a byte on is the one that stands there,
from : {x : ℕ} (b : List ℕ) (n : ℕ) → x ≡ number32 (take (length b - n) (drop n b)) → x ≡ number32 (drop n b)
from b n is = rw take_rest at is

-- and a test of numbers that were read is one of those that stand there.
there : {t : Bool} {x y start side : ℕ} → t ≡ side_within_limits x y → x ≡ start → y ≡ side → side_within_limits start side ≡ t
there e is_start is_side = cc

pub returns-then-not-side_fits : goal.returns-then-not-side_fits
unfolding fits_in
returns-then-not-side_fits c = rw (there c.side_fits.ensures c.get.ensures refl ∙ c.if-not-side_fits.true)

pub returns-then-not-side_fits-2 : goal.returns-then-not-side_fits-2
unfolding fits_in
returns-then-not-side_fits-2 c =
    let q = c.args.quad.now in
    rw (there c.side_fits.ensures c.get.ensures refl ∙ c.if-not-side_fits.false, there c.side_fits-2.ensures (from q 4 c.get-2.ensures) refl ∙ c.if-not-side_fits-2.true)

pub returns-then-not-side_fits-3 : goal.returns-then-not-side_fits-3
unfolding fits_in
returns-then-not-side_fits-3 c =
    let q = c.args.quad.now in
    rw (
      there c.side_fits.ensures c.get.ensures refl ∙ c.if-not-side_fits.false,
      there c.side_fits-2.ensures (from q 4 c.get-2.ensures) refl ∙ c.if-not-side_fits-2.false,
      there c.side_fits-3.ensures (from q 8 c.get-3.ensures) refl ∙ c.if-not-side_fits-3.true,
    )

pub returns-then-not-side_fits-4 : goal.returns-then-not-side_fits-4
unfolding fits_in
returns-then-not-side_fits-4 c =
    let q = c.args.quad.now in
    rw (
      there c.side_fits.ensures c.get.ensures refl ∙ c.if-not-side_fits.false,
      there c.side_fits-2.ensures (from q 4 c.get-2.ensures) refl ∙ c.if-not-side_fits-2.false,
      there c.side_fits-3.ensures (from q 8 c.get-3.ensures) refl ∙ c.if-not-side_fits-3.false,
      there c.side_fits-4.ensures (from q c.args.u c.get-4.ensures) (from q 12 c.get-5.ensures) ∙ c.if-not-side_fits-4.true,
    )

pub returns : goal.returns
unfolding fits_in
returns c =
    let q = c.args.quad.now in
    rw (
      there c.side_fits.ensures c.get.ensures refl ∙ c.if-not-side_fits.false,
      there c.side_fits-2.ensures (from q 4 c.get-2.ensures) refl ∙ c.if-not-side_fits-2.false,
      there c.side_fits-3.ensures (from q 8 c.get-3.ensures) refl ∙ c.if-not-side_fits-3.false,
      there c.side_fits-4.ensures (from q c.args.u c.get-4.ensures) (from q 12 c.get-5.ensures) ∙ c.if-not-side_fits-4.false,
      there c.side_fits-5.ensures (from q c.args.v c.get-6.ensures) (from q 16 c.get-7.ensures),
    )
