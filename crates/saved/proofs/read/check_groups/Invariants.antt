use Rattle.std.proofs.Common.{◌≡◌, ◌+◌, ◌-◌, ◌≤◌, length, drop}
use Rattle.geometry.specs.Refusal.{checked}
use Rattle.saved.specs.Private.{bad_groups_of, Walk}
use Rattle.saved.proofs.read.check_groups.Given as goal

abbrev pub invariant-loop-face : goal.invariant-loop-face
invariant-loop-face l =
    record {
      walk : Walk l.form.numbers l.face-index l.rest;
      first : l.first + length l.rest ≤ length l.bytes;
      left : checked (bad_groups_of l.form.numbers (drop l.face-index l.fn.faces) l.first (6 - l.face-index) l.rest) ≡ checked (bad_groups_of l.form.numbers l.fn.faces 0 6 l.bytes);
    }
