-- Counts taken off a room one after another: what the loop of 24 has to show, in the form of its invariant. No two counts are added to each other.
use mathlib.Core.List.{List, []}
use mathlib.Core.Path.{◌≡◌, sym}
use Prim.Native.Nat.{ℕ, ◌+◌, ◌-◌, ◌≤◌, ◌<◌}
use native.Mathlib.Omega.{arith}
use lib.ListN.{length, get_or, drop}
use borrow.Author.Tests.{lt-ltb, le-ltb}
use Rattle.geometry.specs.Refusal.{accepted, refused, answer}
use Rattle.geometry.proofs.Refusals.{applies, whole_passes, passes_alone}
use Rattle.writing.specs.Handed.{total, past_list}
use Rattle.writing.proofs.Rest.{total_next, total_done}

-- Where the loop stands: of six counts k are taken off the room, and so much is left of it.
pub record Taking (room : ℕ) (counts : List ℕ) (left k : ℕ) : Type 0 where
  pub most : k ≤ 6
  pub six : length counts ≡ 6
  pub less : left ≤ room
  pub done : room - left + total (drop k counts) ≡ total counts

pub taking_start : {room : ℕ} {counts : List ℕ} → length counts ≡ 6 → Taking room counts room 0
taking_start six = record { most = omega arith; six = six; less = omega arith; done = omega arith }

module _ {room : ℕ} {counts : List ℕ} {left k : ℕ} (t : Taking room counts left k) where
  -- A count that is more than what is left is refused by 24,
  pub taking_past : k < 6 → left < get_or counts k 0 → refused 24 0 ≡ answer (past_list room counts) (total counts)
  taking_past h more = sym (applies _ [] _ (lt-ltb room (total counts) (omega (arith, total_next counts k (omega (arith, t.six)), t.less, t.done))))

  -- another is taken off,
  pub taking_on : k < 6 → get_or counts k 0 ≤ left → Taking room counts (left - get_or counts k 0) (k + 1)
  taking_on h fits = record { most = omega arith; six = t.six; less = omega (arith, t.less); done = omega (arith, total_next counts k (omega (arith, t.six)), t.less, t.done) }

  -- and in the end what was taken off is the sum.
  pub taking_done : 6 ≤ k → accepted (room - left) ≡ answer (past_list room counts) (total counts)
  taking_done h =
      let sum : room - left ≡ total counts = omega (arith, total_done counts k (omega (arith, t.six)), t.done) in
      whole_passes (past_list room counts) (total counts) (passes_alone _ (le-ltb room (total counts) (omega (arith, t.less)))) sum
