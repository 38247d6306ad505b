-- Laws of a file's sections as the code asks them: what it finds of a section, and what its loops have to show, in the form of their invariants.
use mathlib.Core.Bool.{Bool, true, false, not, ◌||◌, or-true}
use mathlib.Core.List.{List, [], ◌∷◌}
use mathlib.Core.Path.{◌≡◌, refl, sym, ◌∙◌}
use Prim.Native.Nat.{ℕ, min, ◌+◌, ◌-◌, ◌*◌, ◌≤◌, ◌<◌}
use native.Mathlib.Nat.{mul-one}
use native.Mathlib.Omega.{arith}
use lib.Dec.{eqb, ltb}
use lib.ListN.{length, take, drop, length-drop}
use lib.Seq.{drop-drop, take-add, drop_at, length-take-le}
use borrow.Author.Tests.{lt-ltb, eq-eqb, ne_eqb}
use denote.Ref.{Bor}
use Rattle.std.proofs.Common.{inl, inr}
use Rattle.std.proofs.lemmas.List.{take_rest}
use Rattle.std.proofs.lemmas.Bool.Decides.{nat_tests}
use Rattle.std.specs.Cmp.Lexicographic.{pointwise}
use Rattle.std.specs.List.{starts_with}
use Rattle.std.specs.Option.{MatchOption}
use Rattle.std.specs.Slice.{IsGetRangeResult}
use Rattle.std.specs.Prelude.{Option, None, Some}
use Rattle.geometry.specs.Refusal.{Answer, accepted, refused, checked, answer}
use Rattle.geometry.proofs.Refusals.{applies, passes}
use Rattle.voxels.proofs.Loops.{more, done}
use Rattle.saved.specs.Form.{Form, quad_size, head_count}
use Rattle.saved.specs.Read.{count_in, extent_in, records_in, after_section, ends_early, bad_file, goes_on, same_numbers, wrong_head, section_checks, file_checks}
use Rattle.saved.proofs.Section.{count_there, records_there, whole}

-- ---- one section

-- A section ends early where its count is not there,
pub early_count : (size : ℕ) (b : List ℕ) → length b < 4 → ends_early size b ≡ true
unfolding ends_early
early_count size b h = rw (lt-ltb (length b) 4 h)

-- or where its records are not; any other is followed by what is left after both. Where so many bytes are more than can be counted there are fewer.
pub follows : (size : ℕ) (b : List ℕ) {n m : ℕ} {records : List ℕ} (r : Option (Bor (List ℕ))) → 4 ≤ length b → records ≡ drop 4 b → n ≡ count_in b → m ≡ min (n * size) 18_446_744_073_709_551_615 → length records < 18_446_744_073_709_551_615
    → IsGetRangeResult records m (length records) r → MatchOption r (ends_early size b ≡ true) (λ rest. ends_early size b ≡ false × rest.now ≡ after_section size b)
unfolding ends_early after_section
follows size b {n} {m} {records} None h is-records is counted short got =
    let few : length records < n * size = elim got.0 [ inl l ↦ omega arith | inr l ↦ absurd (omega arith) ] in
    rw (lt-ltb (length (drop 4 b)) (extent_in size b) (rw (is-records, is) at few)) (or-true (ltb (length b) 4))
follows size b {n} {m} {records} (Some rest) h is-records is counted short got =
    let all : m ≡ n * size = omega (arith, got.0.0) in
    (whole size b h (rw (all, is-records, is) at got.0.0), rw (all, is, is-records) at (got.0.2 ∙ take_rest records m))

-- ---- the loop over sections

module _ (size k n : ℕ) (b : List ℕ) {t : Answer (Unit {0})} (left : checked (section_checks size k (n - k) b) ≡ t) where
  next : k < n → checked (bad_file k (ends_early size b) ∷ section_checks size (k + 1) (n - (k + 1)) (after_section size b)) ≡ t
  unfolding section_checks
  next h = rw (more k n h) at left

  -- A section that ends early decides,
  pub sections_stop : k < n → ends_early size b ≡ true → refused 16 k ≡ t
  sections_stop h early = sym (applies (bad_file k (ends_early size b)) _ tt early) ∙ next h

  -- after any other those after it decide,
  pub sections_on : {rest : List ℕ} → k < n → ends_early size b ≡ false → rest ≡ after_section size b → checked (section_checks size (k + 1) (n - (k + 1)) rest) ≡ t
  sections_on h there is = rw is (sym (passes (bad_file k (ends_early size b)) _ tt there) ∙ next h)

  at_end : n ≤ k → checked (bad_file k (goes_on b) ∷ []) ≡ t
  unfolding section_checks
  at_end h = rw (done k n h) at left

-- and at the end bytes that follow are refused, or nothing is.
pub sections_end : (size k n : ℕ) (b : List ℕ) {t : Answer (Unit {0})} → checked (section_checks size k (n - k) b) ≡ t → n ≤ k → (1 ≤ length b → refused 16 k ≡ t) × (length b ≡ 0 → accepted tt ≡ t)
unfolding answer
sections_end size k n [] left h = (λ some. absurd (omega arith), λ none. at_end size k n [] left h)
sections_end size k n (a ∷ b) left h = (λ some. at_end size k n (a ∷ b) left h, λ none. absurd (omega arith))

-- ---- section 0

eqb_swap : (a b : ℕ) → eqb b a ≡ eqb a b
eqb_swap a b = grind (arith, nat_tests)

-- A mark is there where so many bytes begin with it.
same_is : (l mark : List ℕ) → pointwise eqb mark l ≡ same_numbers l mark
unfolding same_numbers
same_is [] [] = refl
same_is [] (b ∷ mark) = refl
same_is (a ∷ l) [] = refl
same_is (a ∷ l) (b ∷ mark) = rw (eqb_swap a b, same_is l mark)

-- What is wrong with it, by the code's tests.
module _ (form : Form) (b : List ℕ) where
  pub head_early : ends_early 1 b ≡ true → (ends_early 1 b || wrong_head form b) ≡ true
  head_early e = rw e

  pub head_wrong : wrong_head form b ≡ true → (ends_early 1 b || wrong_head form b) ≡ true
  head_wrong e = rw e (or-true (ends_early 1 b))

  pub head_right : ends_early 1 b ≡ false → wrong_head form b ≡ false → (ends_early 1 b || wrong_head form b) ≡ false
  head_right e f = rw (e, f)

  pub wrong_count : (count_in b ≡ 6 + length form.mark → ⊥) → wrong_head form b ≡ true
  unfolding wrong_head head_count
  wrong_count d = rw (ne_eqb (count_in b) (6 + length form.mark) d)

  module _ (is_whole : ends_early 1 b ≡ false) (count : count_in b ≡ 6 + length form.mark) where
    pub mark_room : 10 + length form.mark ≤ length b
    mark_room = omega (arith, count_there 1 b is_whole, records_there 1 b is_whole, length-drop 4 b)

    mark_place : drop 6 (records_in 1 b) ≡ take (length form.mark) (drop 10 b)
    unfolding records_in
    mark_place =
        rw (
          count,
          mul-one,
          take-add 6 (length form.mark) (drop 4 b),
          drop_at (take 6 (drop 4 b)) (take (length form.mark) (drop 6 (drop 4 b))) 6 (length-take-le 6 (drop 4 b) (rw length-drop (omega (arith, mark_room)))),
          drop-drop 6 4 b,
        )

    pub mark_tells : {t : Bool} → t ≡ starts_with eqb (drop 10 b) form.mark → wrong_head form b ≡ not t
    unfolding wrong_head head_count
    mark_tells e = rw (eq-eqb (count_in b) (6 + length form.mark) count, mark_place, ← same_is (take (length form.mark) (drop 10 b)) form.mark, ← e)

-- ---- the file

-- Where section 0 is refused so is the file, and where it is not the others decide.
module _ (form : Form) (b : List ℕ) where
  pub file_refused : (ends_early 1 b || wrong_head form b) ≡ true → refused 16 0 ≡ checked (file_checks form b)
  unfolding file_checks
  file_refused e = sym (applies (bad_file 0 (ends_early 1 b || wrong_head form b)) _ tt e)

  pub file_goes_on : {rest : List ℕ} {t : Answer (Unit {0})} → (ends_early 1 b || wrong_head form b) ≡ false → rest ≡ after_section 1 b → t ≡ checked (section_checks (quad_size form.numbers) 1 6 rest) → t ≡ checked (file_checks form b)
  unfolding file_checks
  file_goes_on e is told = rw is at told ∙ sym (passes (bad_file 0 (ends_early 1 b || wrong_head form b)) _ tt e)
