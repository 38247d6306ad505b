-- Every public function's contract leaves one outcome: any two that it allows are equal. Each theorem is about the contract itself, as the function's generated `Reads` has it (`Post`), and not about a copy of it. No
-- function here is lent anything to write, so its outcome is its result.
use mathlib.Core.Path.{sym, ◌∙◌}
use Rattle.geometry.proofs.One.{One, meaning_one}
use Rattle.writing.proofs.handed.check_five.Reads as check-five
use Rattle.writing.proofs.handed.check_listed.Reads as check-listed
use Rattle.writing.proofs.handed.quad_from.Reads as quad_from_lem

pub check_listed_unique : One check-listed.Post
check_listed_unique κs a r r' s s' p q = meaning_one r r' (p ∙ sym q)

pub check_five_unique : One check-five.Post
check_five_unique κs a r r' s s' p q = meaning_one r r' (p ∙ sym q)

pub quad_from_unique : One quad_from_lem.Post
quad_from_unique κs a r r' s s' p q = p ∙ sym q
