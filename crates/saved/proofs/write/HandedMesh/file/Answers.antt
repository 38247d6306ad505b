-- `file` meets its contract: after section 0 what is written of the groups and what is left are all of them.
use Rattle.std.proofs.Common.{rules, ◌≡◌, ℕ, ◌+◌, ◌*◌, ◌-◌, ◌≤◌, List, ◌++◌, length, take, drop, get_or, refl, sym, ap, ◌∙◌, arith, length-append, length-drop, length-take-le}
use Rattle.writing.specs.Statements.{Passes}
use Rattle.writing.proofs.Rest.{Walking, walking_start, walking_on}
use Rattle.writing.proofs.Ordered.{order_passed}
use Rattle.saved.specs.Private.{head_bytes, group_at}
use Rattle.saved.proofs.Filling.{filled_start, filled_room, filled_part, filled_done}
use Rattle.saved.proofs.Writing.{group_long, held_numbers, groups_left, file_start, head_long, groups_next, groups_done, groups_held, groups_few, group_few}
use Rattle.saved.proofs.write.HandedMesh.file.Goals as goal
use Rattle.saved.proofs.write.HandedMesh.file.Goals.{In-loop-count, Start}

-- So long the file is: section 0, and the groups.
long : (c : Start) → length c.args.out.now ≡ 10 + length c.args.self.now.form.mark.now + length (groups_left c.args.self.now.form.numbers c.args.self.now.quads.now c.args.self.now.counts 0 0)
long c =
    let a = c.args in
    let left = groups_left a.self.now.form.numbers a.self.now.quads.now a.self.now.counts 0 0 in
    omega (arith, c.requires, ap length (file_start a.self.now.form.numbers a.self.now.quads.now a.self.now.counts a.self.now.form.mark.now a.self.now.faces), length-append (head_bytes a.self.now.form.mark.now a.self.now.faces) left, head_long a.self.now.form.mark.now a.self.now.faces (search rules))

-- The mesh passes.
passes : (c : In-loop-count) → Passes c.args.self.now.form.numbers c.args.self.now.faces c.args.self.now.counts c.args.self.now.quads.now
passes c = order_passed c.args.self.now.form.numbers c.args.self.now.faces c.args.self.now.counts c.args.self.now.quads.now c.args.self.now.passes

-- Where the loop stands.
walking : (c : In-loop-count) → Walking c.args.self.now.faces c.args.self.now.counts c.loop-count.first c.loop-count.count-index
walking c = c.loop-count.invariant.0 c.args.self.now.faces (search rules)

-- What is left to write is the section of the group at hand, and those after it.
abbrev count : (c : In-loop-count) → ℕ
count c = get_or c.args.self.now.counts c.loop-count.count-index 0

abbrev here : (c : In-loop-count) → List ℕ
here c = group_at c.args.self.now.form.numbers c.args.self.now.quads.now c.loop-count.first (count c)

abbrev after : (c : In-loop-count) → List ℕ
after c = groups_left c.args.self.now.form.numbers c.args.self.now.quads.now c.args.self.now.counts (c.loop-count.first + count c) (c.loop-count.count-index + 1)

next : (c : In-loop-count) → groups_left c.args.self.now.form.numbers c.args.self.now.quads.now c.args.self.now.counts c.loop-count.first c.loop-count.count-index ≡ here c ++ after c
next c =
    groups_next c.args.self.now.form.numbers c.args.self.now.quads.now c.args.self.now.counts c.loop-count.first c.loop-count.count-index (omega (arith, (walking c).counts_six, c.loop-count-test.true))

-- So many bytes are lent for it.
sized : (c : In-loop-count) → 4 + count c * c.quad_size-size.result ≡ length (here c)
sized c =
    let a = c.args in
    let held = held_numbers a.self.now.form.numbers a.self.now.quads.now c.loop-count.first (count c) (groups_held (passes c) (walking c) c.loop-count-test.true) in
    rw c.quad_size-size.ensures (omega (arith, group_long a.self.now.form.numbers a.self.now.quads.now c.loop-count.first (count c) held))

room : (c : In-loop-count) → c.loop-count.at + length (here c) ≤ length c.loop-count.groups
room c = filled_room c.loop-count.invariant.1 (here c) (after c) (next c)

pub split_at_mut-section_0-requires : goal.split_at_mut-section_0-requires
split_at_mut-section_0-requires c = omega (arith, long (goal.at.split_at_mut-section_0-requires c).Start)

pub loop-count-init : goal.loop-count-init
loop-count-init c = (
  λ faces six. walking_start six (search rules),
  filled_start refl (omega (arith, c.split_at_mut-section_0.ensures.back_len, long (goal.at.loop-count-init c).Start)),
)

pub overflow_mul-end : goal.overflow_mul-end
overflow_mul-end c =
    let s = sized c in
    let r = room c in
    search rules

pub overflow_add-end-in-loop-count : goal.overflow_add-end-in-loop-count
overflow_add-end-in-loop-count c =
    let s = sized c in
    let r = room c in
    search rules

pub slice_bounds-group-end : goal.slice_bounds-group-end
slice_bounds-group-end c =
    let s = sized c in
    let r = room c in
    search rules

-- What is lent is so long.
lent : (at n : ℕ) (l : List ℕ) → at + 4 + n ≤ length l → length (take (at + 4 + n - at) (drop at l)) ≡ 4 + n
lent at n l h = let all : at + 4 + n - at ≡ 4 + n = omega arith in rw all (length-take-le (4 + n) (drop at l) (rw length-drop (omega arith)))

pub group-requires : goal.group-requires
group-requires c =
    let in_loop = (goal.at.group-requires c).In-loop-count in
    record {
      count_bound = groups_held (passes in_loop) (walking in_loop) c.loop-count-test.true;
      count_le_most_quads = group_few (passes in_loop) (walking in_loop) c.loop-count-test.true;
      exact = lent c.loop-count.at _ c.loop-count.groups (omega (arith, sized in_loop, room in_loop)) ∙ sized in_loop;
    }

pub overflow_add-first : goal.overflow_add-first
overflow_add-first c =
    let in_loop = (goal.at.overflow_add-first c).In-loop-count in
    let few = groups_few (passes in_loop) (walking in_loop) c.loop-count-test.true in
    record { fits = omega (arith, few) }

pub loop-count-preserved : goal.loop-count-preserved
loop-count-preserved c =
    let in_loop = (goal.at.loop-count-preserved c).In-loop-count in (
      λ faces six. walking_on (c.loop-count.invariant.0 faces six) c.loop-count-test.true,
      filled_part c.loop-count.invariant.1 (here in_loop) (after in_loop) _ _ (next in_loop) c.group.ensures (omega (arith, sized in_loop)) (omega (arith, sized in_loop)),
    )

pub returns : goal.returns
returns c =
    let a = c.args in
    let l = c.loop-count in
    let six : length a.self.now.counts ≡ 6 = search rules in
    rw (c.head.ensures, filled_done l.invariant.1 (groups_done a.self.now.form.numbers a.self.now.quads.now a.self.now.counts l.first l.count-index (omega (arith, six, c.loop-count-test.false))))
    (sym (file_start a.self.now.form.numbers a.self.now.quads.now a.self.now.counts a.self.now.form.mark.now a.self.now.faces))
