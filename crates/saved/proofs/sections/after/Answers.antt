-- `after` meets its contract: the bytes of a section's records are there where so many follow its count.
use Rattle.std.proofs.Common.{rules, ◌≤◌, ◌<◌, length, ◌∙◌}
use Rattle.std.proofs.lemmas.List.{take_rest}
use Rattle.saved.proofs.Places.{early_count, follows}
use Rattle.saved.proofs.sections.after.Goals as goal

pub returns-in_err-records : goal.returns-in_err-records
returns-in_err-records c =
    let short : length c.args.bytes.now < 4 = search rules in
    rw c.from_residual.ensures (early_count c.args.size c.args.bytes.now short)

pub returns : goal.returns
returns c =
    let there : 4 ≤ length c.args.bytes.now = search rules in
    let records = c.in_ok-records.ensures.lookup.0.2 ∙ take_rest c.args.bytes.now 4 in
    let short : length c.in_ok-records.records.now < 18_446_744_073_709_551_615 = search rules in
    follows c.args.size c.args.bytes.now c.get-2.result there records c.get-count.ensures c.saturating_mul.ensures short c.get-2.ensures.lookup
