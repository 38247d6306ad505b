-- What a writer leaves, by its checks and by 15: the three cases of its outcome, whatever its checks and its bytes are.
use mathlib.Core.List.{List, []}
use mathlib.Core.Path.{◌≡◌, sym, ◌∙◌, ap}
use Prim.Native.Nat.{ℕ, ◌≤◌, ◌<◌}
use lib.ListN.{length}
use borrow.Author.Tests.{lt-ltb, le-ltb}
use Rattle.geometry.specs.Refusal.{Answer, accepted, refused, Check, answer, checked, follow}
use Rattle.geometry.proofs.Refusals.{in_turn, applies, passes}
use Rattle.geometry.proofs.One.{number_some, refusal_one}
use Rattle.geometry.specs.Answers.{meaning}
use Rattle.geometry.specs.declared.refusal.Refusal.{Refusal}
use Rattle.std.specs.declared.result.Result.{Result}
use Rattle.std.specs.declared.result.Result.TheVariants.{Ok, Err}
use Rattle.listing.specs.Listing.{overwritten}
use Rattle.writing.specs.Written.{short_output, WriteAnswer, write_answer, outcome, refused_answer, accepted_answer, written, written_after}

-- Results that give one answer are one: no refusal has the number of an accepted call.
pub write_one : (r r' : Result ℕ Refusal) → write_answer (meaning r) ≡ write_answer (meaning r') → r ≡ r'
write_one (Ok a) (Ok b) e = ap Ok (ap (λ (w : WriteAnswer). w.written) e)
write_one (Ok a) (Err d) e = absurd (number_some d.reason (sym (ap (λ (w : WriteAnswer). w.refusal) e)))
write_one (Err d) (Ok b) e = absurd (number_some d.reason (ap (λ (w : WriteAnswer). w.refusal) e))
write_one (Err d) (Err d') e = ap Err (refusal_one d d' (ap (λ (w : WriteAnswer). w.refusal) e) (ap (λ (w : WriteAnswer). w.place) e))

module _ (checks : List Check) (bytes out : List ℕ) where
  -- Its checks are asked first, and then 15.
  in_order : written_after checks bytes out ≡ written (follow (checked checks) (answer (short_output (length bytes) (length out)) bytes)) out
  unfolding written_after
  in_order = ap (λ (a : Answer (List ℕ)). written a out) (in_turn checks (short_output (length bytes) (length out)) bytes)

  -- A check refuses, and nothing is written;
  pub checks_refuse : {n p : ℕ} → checked checks ≡ refused n p → written_after checks bytes out ≡ outcome (refused_answer n p) out
  checks_refuse e = rw e at in_order

  -- or all pass, and 15 alone is left,
  module _ (passed : checked checks ≡ accepted tt) where
    fifteen_left : written_after checks bytes out ≡ written (answer (short_output (length bytes) (length out)) bytes) out
    fifteen_left = rw passed at in_order

    -- which refuses where the output is shorter than the bytes,
    pub short_refused : length out < length bytes → written_after checks bytes out ≡ outcome (refused_answer 15 0) out
    short_refused h = fifteen_left ∙ ap (λ (a : Answer (List ℕ)). written a out) (applies _ [] bytes (lt-ltb _ _ h))

    -- and else they stand at its start.
    pub enough_written : length bytes ≤ length out → written_after checks bytes out ≡ outcome (accepted_answer (length bytes)) (overwritten bytes out)
    unfolding answer
    enough_written h = fifteen_left ∙ ap (λ (a : Answer (List ℕ)). written a out) (passes _ [] bytes (le-ltb _ _ h))
