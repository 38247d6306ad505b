-- The worked examples hold of the rules: each side of each row is computed.
use mathlib.Core.Path.{refl}
use Rattle.geometry.specs.Lists.{Each}
use Rattle.listing.specs.Listing.{overwritten}
use Rattle.digits.specs.Decimal.{digits_within, digits, part}
use Rattle.digits.specs.Examples.{Spells, spellings}

pub spellings_hold : Each Spells spellings
unfolding spellings Each part overwritten digits digits_within
spellings_hold = (refl, (refl, (refl, (refl, (refl, (refl, (refl, (refl, (refl, (refl, (refl, (refl, (refl, (refl, (refl, tt)))))))))))))))
