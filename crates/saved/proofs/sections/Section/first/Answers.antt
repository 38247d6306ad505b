-- `first` meets its contract: a section that does not end early has its count and its records.
use Rattle.std.proofs.Common.{arith, ◌*◌, length-drop, rules, ◌≤◌, length, ◌∙◌}
use Rattle.std.proofs.lemmas.List.{take_rest}
use Rattle.saved.specs.Read.{records_in, after_section}
use Rattle.saved.proofs.Section.{count_there, records_there}
use Rattle.saved.proofs.sections.Section.first.Goals as goal
use Rattle.saved.proofs.sections.Section.first.Goals.{Start}

count : (c : Start) → 4 ≤ length c.args.bytes.now
count c = count_there c.args.size c.args.bytes.now c.requires

pub get-count-requires : goal.get-count-requires
get-count-requires c = count (goal.at.get-count-requires c).Start

pub overflow_mul-count : goal.overflow_mul-count
overflow_mul-count c =
    let b = c.args.bytes.now in
    let fits : c.get-count.result * c.args.size ≤ length b = rw c.get-count.ensures (omega (arith, records_there c.args.size b c.requires, length-drop 4 b)) in
    search rules

pub slice_bounds-split_at-count : goal.slice_bounds-split_at-count
slice_bounds-split_at-count c = count (goal.at.slice_bounds-split_at-count c).Start

pub slice_bounds-split_at-start : goal.slice_bounds-split_at-start
slice_bounds-split_at-start c = let h = count (goal.at.slice_bounds-split_at-start c).Start in search rules

pub split_at-requires : goal.split_at-requires
split_at-requires c = rw (c.get-count.ensures, take_rest) (records_there c.args.size c.args.bytes.now c.requires)

pub returns-clause-records : goal.returns-clause-records
unfolding records_in
returns-clause-records c = c.split_at.ensures.front ∙ rw (c.get-count.ensures, take_rest)

pub returns-clause-after : goal.returns-clause-after
unfolding after_section
returns-clause-after c = c.split_at.ensures.back ∙ rw (c.get-count.ensures, take_rest)
