-- `group` meets its contract: its quads are the list's, and their bytes follow their count.
use Rattle.std.proofs.Common.{rules, ◌≡◌, ℕ, ◌+◌, ◌*◌, ◌-◌, ◌≤◌, length, drop, sym, arith, length-drop, length-take-le}
use Rattle.saved.proofs.Writing.{group_flat, group_long, held_numbers}
use Rattle.saved.proofs.write.HandedMesh.group.Goals as goal
use Rattle.saved.proofs.write.HandedMesh.group.Goals.{Start}

-- The group's numbers are the list's.
held : (c : Start) → c.args.first * c.args.self.now.form.numbers + c.args.count * c.args.self.now.form.numbers ≤ length c.args.self.now.quads.now
held c = let a = c.args in held_numbers a.self.now.form.numbers a.self.now.quads.now a.first a.count c.requires.count_bound

pub overflow_mul-from : goal.overflow_mul-from
overflow_mul-from c = let h = held (goal.at.overflow_mul-from c).Start in search rules

pub overflow_add-end : goal.overflow_add-end
overflow_add-end c = let h = held (goal.at.overflow_add-end c).Start in search rules

pub split_at_mut-head-requires : goal.split_at_mut-head-requires
split_at_mut-head-requires c = let a = c.args in
    omega (arith, c.requires.exact, group_long a.self.now.form.numbers a.self.now.quads.now a.first a.count (held (goal.at.split_at_mut-head-requires c).Start))

pub offset_bounds-self-from : goal.offset_bounds-self-from
offset_bounds-self-from c = let h = held (goal.at.offset_bounds-self-from c).Start in search rules

pub slice_bounds-numbers-end : goal.slice_bounds-numbers-end
slice_bounds-numbers-end c = let h = held (goal.at.slice_bounds-numbers-end c).Start in search rules

-- What is lent of the list is so many numbers.
many : (a b : ℕ) → a + b - a ≡ b
many a b = omega arith

pub numbers-requires : goal.numbers-requires
numbers-requires c =
    let a = c.args in
    let from = a.first * a.self.now.form.numbers in
    let n = a.count * a.self.now.form.numbers in
    let h = held (goal.at.numbers-requires c).Start in
    rw (many from n, length-take-le n (drop from a.self.now.quads.now) (rw length-drop (omega (arith, h))))
    (omega (arith, c.split_at_mut-head.ensures.back_len, c.requires.exact, group_long a.self.now.form.numbers a.self.now.quads.now a.first a.count h))

pub returns : goal.returns
returns c =
    let a = c.args in
    rw (c.put.ensures, c.numbers.ensures, many (a.first * a.self.now.form.numbers) (a.count * a.self.now.form.numbers)) (sym (group_flat a.self.now.form.numbers a.self.now.quads.now a.first a.count))
