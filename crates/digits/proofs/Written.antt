-- Digits written from the last to the first, before what stood behind them; the part that they are then; and the same from some place of a longer text on.
use mathlib.Core.List.{List, [], ◌∷◌, ◌++◌, append_assoc, append-nil}
use mathlib.Core.Path.{◌≡◌, refl, sym, ◌∙◌, ap}
use Prim.Native.Nat.{ℕ, zero, suc, ◌+◌, ◌-◌, ◌/◌, ◌%◌, ◌≤◌, ◌<◌}
use native.Mathlib.Nat.{mod-eq_of_lt, not-suc-le-zero}
use native.Mathlib.Numerals.{add-one}
use native.Mathlib.Omega.{arith}
use lib.Dec.{leb}
use lib.ListN.{length, take, drop, set, length-set, length-drop, drop_of_length-le, take-append-drop}
use lib.Seq.{length-take-le, take_all, drop-cons, get_or-set_same, drop-set-lt, take-append_seam, drop-append_seam}
use borrow.Author.Tests.{leb-true, leb-false, le-leb, lt-leb}
use Rattle.geometry.proofs.Refusals.{split}
use Rattle.listing.specs.Listing.{overwritten}
use Rattle.listing.specs.Pushed.{set_all}
use Rattle.listing.proofs.Pushed.{set_all_after}
use Rattle.digits.specs.Decimal.{glyph, digits, part, spelled, Spelt, spelt, spelling}
use Rattle.digits.specs.Statements.{Formatted}
use Rattle.digits.proofs.Digits.{by_tenths, digits_one, digits_more, digits_some, length_more}

-- ---- from the last to the first

-- The last digits of a number, so many.
unfoldable pub last_digits : ℕ → ℕ → List ℕ
last_digits zero n = []
last_digits (suc k) n = last_digits k (n / 10) ++ (glyph (n % 10) ∷ [])

-- All of them are the digits.
all_last : (n : ℕ) → digits n ≡ last_digits (length (digits n)) n
unfolding last_digits
all_last =
    by_tenths (λ (n : ℕ). digits n ≡ last_digits (length (digits n)) n)
    (λ n h. rw (digits_one n h, mod-eq_of_lt h))
    (λ n h tenth. rw (length_more n h, add-one (length (digits (n / 10))), ← tenth) (digits_more n h))

-- Before the first digit is written all are to come,
pub writing_starts : (n count : ℕ) (s : List ℕ) → count ≡ length (digits n) → last_digits count n ++ drop count s ≡ digits n ++ drop count s
writing_starts n count s e = rw e (ap (λ (l : List ℕ). l ++ drop (length (digits n)) s) (sym (all_last n)))

-- one that is written stands before those that were written before it,
pub writing_on : (at rest : ℕ) (s : List ℕ) → 0 < at → at ≤ length s → last_digits (at - 1) (rest / 10) ++ drop (at - 1) (set s (at - 1) (glyph (rest % 10))) ≡ last_digits at rest ++ drop at s
unfolding last_digits
writing_on zero rest s some h = absurd (not-suc-le-zero some)
writing_on (suc at) rest s some h =
    let byte : ℕ = glyph (rest % 10) in
    let here : at < length (set s at byte) = rw (length-set s at byte) h in
    let before : suc at - 1 ≡ at = omega arith in
    rw (before, drop-cons (set s at byte) at 0 here, get_or-set_same s at byte 0 h, drop-set-lt (suc at) s at byte (omega arith))
    (sym (append_assoc (last_digits at (rest / 10)) (byte ∷ []) (drop (suc at) s)))

-- and with none to come all stand there.
pub writing_done : (at rest : ℕ) (s t : List ℕ) → at ≤ 0 → last_digits at rest ++ drop at s ≡ t → s ≡ t
unfolding last_digits
writing_done zero rest s t h e = e
writing_done (suc at) rest s t h e = absurd (not-suc-le-zero h)

-- ---- the part

-- Where the digits fit they are the part,
pub part_fits : (n : ℕ) (s : List ℕ) → length (digits n) ≤ length s → part n s ≡ digits n
unfolding part
part_fits n s h = rw (le-leb (length (digits n)) (length s) h, part)

-- and where they do not it is empty;
pub part_short : (n : ℕ) (s : List ℕ) → length s < length (digits n) → part n s ≡ []
unfolding part
part_short n s h = rw (lt-leb (length (digits n)) (length s) h, part)

-- no other part is, since a number has a digit.
part_empty : (n : ℕ) (s : List ℕ) → part n s ≡ [] → length s < length (digits n)
part_empty n s e =
    split (leb (length (digits n)) (length s))
    (λ t. let none : length (digits n) ≡ 0 = ap length (sym (part_fits n s (leb-true (length (digits n)) (length s) t)) ∙ e) in absurd (not-suc-le-zero (rw none at (digits_some n))))
    (λ f. leb-false (length (digits n)) (length s) f)

-- What spelling leaves is what the formatter's promise says: so many bytes,
pub spelt_written : {count count' : ℕ} {s s' : List ℕ} → spelt count s ≡ spelt count' s' → count ≡ count'
spelt_written e = ap (λ (o : Spelt). o.written) e

-- and that scratch.
pub spelt_scratch : {count count' : ℕ} {s s' : List ℕ} → spelt count s ≡ spelt count' s' → s ≡ s'
spelt_scratch e = ap (λ (o : Spelt). o.scratch) e

-- Where the digits do not fit none is written, and the scratch is as it was,
pub spelled_short : (n : ℕ) (s : List ℕ) → length s < length (digits n) → spelt 0 s ≡ spelling n s
unfolding overwritten
spelled_short n s h = rw (part_short n s h)

-- and where they do they stand before the rest of it.
pub spelled_fits : (n count : ℕ) (s : List ℕ) {t : List ℕ} → count ≡ length (digits n) → count ≤ length s → t ≡ digits n ++ drop count s → spelt count t ≡ spelling n s
unfolding overwritten
spelled_fits n count s e h is = rw (is, e, part_fits n s (rw e at h))

-- The part stands at the start of what spelling leaves,
pub part_taken : (n : ℕ) (s : List ℕ) {count : ℕ} {t : List ℕ} → spelt count t ≡ spelling n s → take count t ≡ part n s
unfolding overwritten
part_taken n s e = rw (spelt_written e, spelt_scratch e) (take-append_seam (part n s) (drop (length (part n s)) s))

-- and what isn't written stays.
rest_stays : (n : ℕ) (s : List ℕ) → drop (length (part n s)) (spelled n s) ≡ drop (length (part n s)) s
unfolding overwritten
rest_stays n s = drop-append_seam (part n s) (drop (length (part n s)) s)

pub formatted_holds : (n : ℕ) (s : List ℕ) → Formatted n s
formatted_holds n s =
    record {
      fits = part_fits n s;
      short = part_empty n s;
      unchanged = λ h. sym (spelt_scratch (spelled_short n s h));
      start = part_taken n s refl;
      stays = rest_stays n s;
    }

-- ---- from some place of a longer text on

-- A caller that lends all of a text from a place on, `&mut out[at..]`, and whose digits fit there.
module _ (n at : ℕ) (out : List ℕ) (h : at + length (digits n) ≤ length out) {count : ℕ} {last : List ℕ} (e : spelt count last ≡ spelling n (take (length out - at) (drop at out))) where
  -- What is lent is all that stands there,
  lent : length (drop at out) ≤ length out - at
  lent = rw (length-drop at out) (omega arith)

  fitting : length (digits n) ≤ length (drop at out)
  fitting = rw (length-drop at out) (omega arith)

  -- the digits are its part,
  part_from : part n (take (length out - at) (drop at out)) ≡ digits n
  part_from = rw (take_all (length out - at) (drop at out) lent) (part_fits n (drop at out) fitting)

  -- so many are written,
  pub spelled_many : count ≡ length (digits n)
  spelled_many = spelt_written e ∙ ap length part_from

  -- and the text is set to them from there on.
  pub spelled_from : take at out ++ (last ++ drop (length out - at) (drop at out)) ≡ set_all out at (digits n)
  unfolding overwritten
  spelled_from =
      let before : length (take at out) ≡ at = length-take-le at out (omega arith) in
      let is : last ≡ overwritten (digits n) (drop at out) =
      spelt_scratch e ∙ rw (part_from, take_all (length out - at) (drop at out) lent) in
      rw (is, drop_of_length-le (drop at out) lent, append-nil (overwritten (digits n) (drop at out)))
      (sym (rw (take-append-drop at out, before) at (set_all_after (digits n) (take at out) (drop at out) fitting)))
