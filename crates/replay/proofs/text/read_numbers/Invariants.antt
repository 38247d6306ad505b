-- `text::read_numbers` is safe: the numbers that it has are within the room.
use Rattle.std.proofs.Common.{◌≤◌, length}
use Rattle.replay.proofs.text.read_numbers.Given as goal

abbrev pub invariant-loop-field : goal.invariant-loop-field
invariant-loop-field l = l.count ≤ length l.room
