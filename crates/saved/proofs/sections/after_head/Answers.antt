-- `after_head` meets its contract: section 0 ends early, or has another count, or another mark, or ends where it says.
use Rattle.std.proofs.Common.{rules, ◌≡◌, ◌+◌, ◌≤◌, false, not, length, sym, ap, ◌∙◌, arith}
use Rattle.std.proofs.lemmas.List.{take_rest}
use Rattle.saved.specs.Private.{form_of}
use Rattle.saved.specs.Read.{count_in, ends_early, wrong_head}
use Rattle.saved.proofs.Section.{count_there}
use Rattle.saved.proofs.Places.{head_wrong, head_right, wrong_count, mark_room, mark_tells}
use Rattle.saved.proofs.sections.after_head.Goals as goal
use Rattle.saved.proofs.sections.after_head.Goals.{Else-count-wanted, In_ok-rest, After-starts_with}

-- Where what follows section 0 is found it is whole,
whole : (c : In_ok-rest) → ends_early 1 c.args.bytes.now ≡ false
whole c = c.in_ok-rest.ensures.0

-- and past the test on its count it has as many bytes as the form says.
count : (c : Else-count-wanted) → count_in c.args.bytes.now ≡ 6 + length c.args.form.mark.now
count c = sym c.get-count.ensures ∙ c.if-count-wanted.false

pub get-count-requires : goal.get-count-requires
get-count-requires c = count_there 1 c.args.bytes.now (whole c)

pub returns-then-count-wanted : goal.returns-then-count-wanted
returns-then-count-wanted c =
    let form = form_of c.args.form in
    let b = c.args.bytes.now in
    head_wrong form b (wrong_count form b (λ e. c.if-count-wanted.true (c.get-count.ensures ∙ e)))

room : (c : Else-count-wanted) → 10 + length c.args.form.mark.now ≤ length c.args.bytes.now
room c = mark_room (form_of c.args.form) c.args.bytes.now c.in_ok-rest.ensures.0 (count c)

pub slice_bounds-starts_with-count : goal.slice_bounds-starts_with-count
slice_bounds-starts_with-count c = omega (arith, room c)

pub slice_bounds-starts_with-start : goal.slice_bounds-starts_with-start
slice_bounds-starts_with-start c = let r = room c in search rules

-- The test of the mark is the rule's.
told : (c : After-starts_with) → count_in c.args.bytes.now ≡ 6 + length c.args.form.mark.now → wrong_head (form_of c.args.form) c.args.bytes.now ≡ not c.starts_with.result
told c many = mark_tells (form_of c.args.form) c.args.bytes.now c.in_ok-rest.ensures.0 many (rw take_rest at c.starts_with.ensures.value)

pub returns-then-not-starts_with : goal.returns-then-not-starts_with
returns-then-not-starts_with c =
    head_wrong (form_of c.args.form) c.args.bytes.now
    (told (goal.at.returns-then-not-starts_with c).After-starts_with (count (goal.at.returns-then-not-starts_with c).Else-count-wanted) ∙ ap not c.if-not-starts_with.true)

pub returns : goal.returns
returns c = (
  head_right (form_of c.args.form) c.args.bytes.now c.in_ok-rest.ensures.0
      (told (goal.at.returns c).After-starts_with (count (goal.at.returns c).Else-count-wanted) ∙ ap not c.if-not-starts_with.false),
  c.in_ok-rest.ensures.1,
)
