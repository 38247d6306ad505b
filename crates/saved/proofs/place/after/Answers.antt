-- `after` meets its contract: a section is its count and its records.
use Rattle.std.proofs.Common.{◌∙◌}
use Rattle.std.proofs.lemmas.List.{take_rest}
use Rattle.saved.specs.Read.{after_section}
use Rattle.saved.proofs.Reaching.{nothing_after}
use Rattle.saved.proofs.place.after.Goals as goal

pub returns-then-bytes-lt4 : goal.returns-then-bytes-lt4
returns-then-bytes-lt4 c = nothing_after c.args.size c.args.bytes.now c.if-bytes-lt4.true

pub returns : goal.returns
unfolding after_section
returns c = c.within.ensures ∙ rw (c.get-count.ensures, take_rest)
