-- `take_groups` meets its contract: what is taken and what is left, of the numbers and of the counts, are all of it.
use Rattle.std.proofs.Common.{rules, ◌≡◌, ℕ, ◌+◌, ◌*◌, ◌-◌, ◌≤◌, List, ◌++◌, false, length, take, drop, arith, refl, sym, ap, ◌∙◌, length-take-le, length-drop}
use Rattle.std.proofs.lemmas.List.{length-map}
use Rattle.saved.specs.Bytes.{number32, read_all}
use Rattle.saved.specs.Form.{quad_size}
use Rattle.saved.specs.Read.{ends_early, records_in, after_section, groups_in}
use Rattle.saved.proofs.Items.{read_length}
use Rattle.saved.proofs.Section.{records_length}
use Rattle.saved.proofs.Groups.{groups_length}
use Rattle.saved.proofs.Filling.{filled_start, filled_room, filled_part, filled_one, filled_done}
use Rattle.saved.proofs.Walking.{walk_whole, walk_on}
use Rattle.saved.proofs.Taking.{numbers_left, counts_left, numbers_next, counts_next, numbers_none}
use Rattle.saved.proofs.read.take_groups.Goals as goal
use Rattle.saved.proofs.read.take_groups.Goals.{In-loop-count, After-first-section}

-- The section at hand is whole,
whole : (c : In-loop-count) → ends_early (quad_size c.args.form.numbers) c.loop-count.rest.now ≡ false
whole c = walk_whole c.loop-count.invariant.walk c.loop-count-test.true

-- it has its records, and what follows it.
are : (c : After-first-section) → c.first-section.result.records.now ≡ records_in (quad_size c.args.form.numbers) c.loop-count.rest.now
are c = rw c.quad_size-size.ensures at c.first-section.ensures.records

follows : (c : After-first-section) → c.first-section.result.after.now ≡ after_section (quad_size c.args.form.numbers) c.loop-count.rest.now
follows c = rw c.quad_size-size.ensures at c.first-section.ensures.after

-- Its numbers,
abbrev many : (c : After-first-section) → ℕ
many c = c.first-section.result.count * c.args.form.numbers

abbrev here : (c : After-first-section) → List ℕ
here c = read_all 4 number32 (many c) c.first-section.result.records.now

-- and those after it.
abbrev after : (c : After-first-section) → List ℕ
after c = numbers_left c.args.form.numbers (c.loop-count.count-index + 1) c.first-section.result.after.now

next : (c : After-first-section) → numbers_left c.args.form.numbers c.loop-count.count-index c.loop-count.rest.now ≡ here c ++ after c
next c = numbers_next c.args.form.numbers c.loop-count.count-index c.loop-count.rest.now c.loop-count-test.true c.first-section.ensures.count (are c) (follows c)

sized : (c : After-first-section) → length (here c) ≡ many c
sized c = read_length 4 number32 (many c) c.first-section.result.records.now

room : (c : After-first-section) → c.loop-count.at + many c ≤ length c.loop-count.out
room c = omega (arith, filled_room c.loop-count.invariant.taken (here c) (after c) (next c), sized c)

-- What is lent is so long.
lent : (at n : ℕ) (l : List ℕ) → at + n ≤ length l → length (take (at + n - at) (drop at l)) ≡ n
lent at n l h = let all : at + n - at ≡ n = omega arith in rw all (length-take-le n (drop at l) (rw length-drop (omega arith)))

pub loop-count-init : goal.loop-count-init
loop-count-init c = record {
  walk = c.requires.walk;
  taken = filled_start refl c.requires.exact;
  counted = filled_start refl (sym (length-map (groups_in c.args.form.numbers 6 c.args.bytes.now) length ∙ groups_length c.args.form.numbers 6 c.args.bytes.now));
}

pub first-section-requires : goal.first-section-requires
first-section-requires c = rw c.quad_size-size.ensures (whole (goal.at.first-section-requires c).In-loop-count)

pub overflow_mul-end : goal.overflow_mul-end
overflow_mul-end c = let r = room c in search rules

pub overflow_add-end : goal.overflow_add-end
overflow_add-end c = let r = room c in search rules

pub slice_bounds-take_numbers-end : goal.slice_bounds-take_numbers-end
slice_bounds-take_numbers-end c = let r = room (goal.at.slice_bounds-take_numbers-end c).After-first-section in search rules

pub take_numbers-requires : goal.take_numbers-requires
take_numbers-requires c =
    let s = (goal.at.take_numbers-requires c).After-first-section in
    let w = walk_whole c.loop-count.invariant.walk c.loop-count-test.true in
    rw (lent c.loop-count.at (many s) c.loop-count.out (room s), are s, c.first-section.ensures.count)
    (omega (arith, records_length (quad_size c.args.form.numbers) c.loop-count.rest.now w))

pub loop-count-preserved : goal.loop-count-preserved
loop-count-preserved c =
    let l = c.loop-count in
    let s = (goal.at.loop-count-preserved c).After-first-section in
    let n = c.args.form.numbers in
    record {
      walk = walk_on l.invariant.walk c.loop-count-test.true (follows s);
      taken = filled_part l.invariant.taken (here s) (after s) _ _ (next s) (c.take_numbers.ensures ∙ ap (λ (m : ℕ). read_all 4 number32 m c.first-section.result.records.now) (lent l.at (many s) l.out (room s))) (omega (arith, sized s)) (omega (arith, sized s));
      counted = filled_one l.invariant.counted c.first-section.result.count (counts_left n (l.count-index + 1) c.first-section.result.after.now) (counts_next n l.count-index l.rest.now c.loop-count-test.true c.first-section.ensures.count (are s) (follows s));
    }

pub returns-clause-out_after : goal.returns-clause-out_after
returns-clause-out_after c = let l = c.loop-count in filled_done l.invariant.taken (numbers_none c.args.form.numbers l.count-index l.rest.now c.loop-count-test.false)
