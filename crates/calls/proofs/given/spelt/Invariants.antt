-- `spelt` has taken the digits before what is left: those that are left, taken on from its number, are all.
use Rattle.std.proofs.Common.{◌≡◌, ◌+◌, ◌*◌, ◌%◌, ◌^◌, length, fold, filter_map, take_while, drop}
use Rattle.calls.specs.Text.{digit, is_digit}
use Rattle.calls.proofs.given.spelt.Given as goal

abbrev pub invariant-loop-b : goal.invariant-loop-b
invariant-loop-b l = record {
  number : fold (λ n d. (n * l.base % 2 ^ 32 + d) % 2 ^ 32) l.number (filter_map (digit l.base) (take_while (is_digit l.base) l.rest))
      ≡ fold (λ n d. (n * l.base % 2 ^ 32 + d) % 2 ^ 32) 0 (filter_map (digit l.base) (take_while (is_digit l.base) l.text));
  past : drop (length (take_while (is_digit l.base) l.rest)) l.rest ≡ drop (length (take_while (is_digit l.base) l.text)) l.text;
}

abbrev pub decreases-loop-b : goal.decreases-loop-b
decreases-loop-b l = length l.rest
