-- Items that are listed one after another, each written where there is room, leave the buffer that `lay` says. One law for items of any number of numbers.
use mathlib.Core.List.{List, [], ◌∷◌, ◌++◌, map, append_assoc}
use mathlib.Core.Path.{◌≡◌, refl, sym, ◌∙◌, ap}
use Prim.Native.Nat.{ℕ, zero, suc, ◌+◌, ◌*◌, ◌/◌, ◌≤◌, ◌<◌}
use native.Mathlib.Nat.{div-mul-le_self, mul-le-mul_right, add-zero, zero-add, suc-add, add-mul, one-mul, zero-mul, suc-mul, not-suc-le-zero, mul-add-div_right, div-eq_of_lt, div-eq-sub-div, le-div_iff_mul-le}
use native.Mathlib.Omega.{arith}
use lib.Dec.{leb, ltb}
use lib.ListN.{length, get_or, length-append, length-drop, take, drop, set, length-set, take-append-drop}
use lib.Seq.{length-take-le}
use borrow.Rule.Slice.PartMut.{put_mid}
use borrow.Author.Tests.{lt-ltb, le-ltb, leb-true, leb-false, ltb-true, ltb-false}
use Rattle.geometry.specs.Refusal.{accepted, refused, answer}
use Rattle.geometry.proofs.Refusals.{split, applies, passes}
use Rattle.listing.specs.Listing.{joined, overwritten, capacity, lay}
use Rattle.listing.specs.Pushed.{set_all, put, Output, output, pushed, pushed_all}

-- ---- writing a list

-- A number set where a list ends changes the next.
pub set_after : (done : List ℕ) (r x : ℕ) (rest : List ℕ) → set (done ++ (r ∷ rest)) (length done) x ≡ done ++ (x ∷ rest)
set_after [] r x rest = refl
set_after (d ∷ done) r x rest = ap (λ (l : List ℕ). d ∷ l) (set_after done r x rest)

-- A list set from there on overwrites what follows.
pub set_all_after : (xs done rest : List ℕ) → length xs ≤ length rest → set_all (done ++ rest) (length done) xs ≡ done ++ overwritten xs rest
unfolding overwritten set_all
set_all_after [] done rest h = refl
set_all_after (x ∷ xs) done [] h = absurd (not-suc-le-zero h)
set_all_after (x ∷ xs) done (r ∷ rest) h =
    rw (set_after done r x rest)
    (let shift : done ++ (x ∷ rest) ≡ (done ++ (x ∷ [])) ++ rest = sym (append_assoc done (x ∷ []) rest) in
    let next : length done + 1 ≡ length (done ++ (x ∷ [])) = sym (length-append done (x ∷ [])) in
    rw (shift, next)
    (set_all_after xs (done ++ (x ∷ [])) rest (omega arith) ∙ append_assoc done (x ∷ []) (overwritten xs rest)))

-- A list dropped in two parts.
drop_drop : {A : Type 0} (k m : ℕ) (l : List A) → drop m (drop k l) ≡ drop (k + m) l
drop_drop zero m l = rw (zero-add m)
drop_drop (suc k) zero [] = rw (suc-add k zero)
drop_drop (suc k) (suc m) [] = rw (suc-add k (suc m))
drop_drop (suc k) m (a ∷ l) = rw (suc-add k m) (drop_drop k m l)

-- Two lists that overwrite one after the other overwrite as one.
over_over : (done first next rest : List ℕ) → (done ++ first) ++ overwritten next (drop (length first) rest) ≡ done ++ overwritten (first ++ next) rest
unfolding overwritten
over_over done first next rest =
    rw (drop_drop (length first) (length next) rest, length-append first next, append_assoc first next (drop (length first + length next) rest))
    (append_assoc done first (next ++ drop (length first + length next) rest))

-- Of the first so many of a list, one more is set.
pub set_next : (xs out : List ℕ) (at k : ℕ) → k < length xs → set_all out at (take (k + 1) xs) ≡ set (set_all out at (take k xs)) (at + k) (get_or xs k 0)
unfolding set_all
set_next [] out at k h = absurd (not-suc-le-zero h)
set_next (x ∷ xs) out at zero h = rw add-zero
set_next (x ∷ xs) out at (suc k) h =
    let next : at + suc k ≡ at + 1 + k = omega arith in
    rw (suc-add k 1, next) (set_next xs (set out at x) (at + 1) k (omega arith))

-- Numbers set in two lots.
pub set_all_append : (out : List ℕ) (at : ℕ) (a b : List ℕ) → set_all (set_all out at a) (at + length a) b ≡ set_all out at (a ++ b)
unfolding set_all
set_all_append out at [] b = rw add-zero
set_all_append out at (x ∷ a) b =
    let next : at + length (x ∷ a) ≡ at + 1 + length a = omega arith in
    rw next (set_all_append (set out at x) (at + 1) a b)

-- Setting numbers keeps how many there are.
pub set_all_length : (xs out : List ℕ) (at : ℕ) → length (set_all out at xs) ≡ length out
unfolding set_all
set_all_length [] out at = refl
set_all_length (x ∷ xs) out at = set_all_length xs (set out at x) (at + 1) ∙ length-set out at x

-- Numbers written over the part where they come to stand are set there.
pub set_part : (out : List ℕ) (at k : ℕ) {now xs : List ℕ} → now ≡ xs → k ≡ length xs → at + length xs ≤ length out → put_mid at k out now ≡ set_all out at xs
unfolding overwritten
set_part out at k {now} {xs} is many h =
    let before : length (take at out) ≡ at = length-take-le at out (omega arith) in
    let fits : length xs ≤ length (drop at out) = rw (length-drop at out) (omega arith) in
    rw (is, many) (sym (rw (take-append-drop at out, before) at (set_all_after xs (take at out) (drop at out) fits)))

-- ---- an item

-- Where there is room for one more item of so many numbers, its numbers fit.
pub room_enough : (n long numbers : ℕ) → n < capacity numbers long → n * numbers + numbers ≤ long
unfolding capacity
room_enough n long numbers h = omega (arith, div-mul-le_self long numbers, mul-le-mul_right {m = suc n} {n = long / numbers} numbers h, suc-mul n numbers)

-- An item is written where there is room for it,
pub put_room : (out item : List ℕ) (n : ℕ) → n < capacity (length item) (length out) → put out n item ≡ set_all out (n * length item) item
unfolding put
put_room out item n h = rw (lt-ltb n (capacity (length item) (length out)) h, put)

-- and where there is none nothing is;
pub put_full : (out item : List ℕ) (n : ℕ) → capacity (length item) (length out) ≤ n → put out n item ≡ out
unfolding put
put_full out item n h = rw (le-ltb n (capacity (length item) (length out)) h, put)

-- nor of an item of no numbers.
pub put_none : (out item : List ℕ) (n : ℕ) → length item ≡ 0 → put out n item ≡ out
unfolding put set_all
put_none out [] n h = split (ltb n (capacity 0 (length out))) (λ t. rw (t, put)) (λ f. rw (f, put))
put_none out (x ∷ item) n h = let none : ⊥ = omega arith in absurd none

-- ---- listing items

module _ {A : Type 0} (numbers : ℕ) (numbers_of : A → List ℕ) where
  -- Items listed in two parts.
  pub pushed_append : (s : Output) (l m : List A) → pushed_all numbers numbers_of s (l ++ m) ≡ pushed_all numbers numbers_of (pushed_all numbers numbers_of s l) m
  unfolding pushed_all
  pushed_append s [] m = refl
  pushed_append s (a ∷ l) m = pushed_append (pushed numbers numbers_of s a) l m

  -- Each item is counted,
  pub pushed_counts : (s : Output) (a : A) → (pushed numbers numbers_of s a).listed ≡ s.listed + 1
  unfolding pushed
  pushed_counts s a = split (ltb s.listed (capacity numbers (length s.out))) (λ t. rw (t, pushed)) (λ f. rw (f, pushed))

  -- where there is no room it is counted alone,
  pub pushed_full : (s : Output) (a : A) → capacity numbers (length s.out) ≤ s.listed → pushed numbers numbers_of s a ≡ output s.out (s.listed + 1)
  unfolding pushed
  pushed_full s a h = rw (le-ltb s.listed (capacity numbers (length s.out)) h, pushed)

  -- and where there is room it is written.
  pub pushed_room : (s : Output) (a : A) → s.listed < capacity numbers (length s.out) → pushed numbers numbers_of s a ≡ output (set_all s.out (s.listed * numbers) (numbers_of a)) (s.listed + 1)
  unfolding pushed
  pushed_room s a h = rw (lt-ltb s.listed (capacity numbers (length s.out)) h, pushed)

module _ {A : Type 0} (numbers : ℕ) (numbers_of : A → List ℕ) (some : 0 < numbers) (sized : (a : A) → length (numbers_of a) ≡ numbers) where
  -- Listing an item writes it, and counts it.
  pub put_pushed : (out : List ℕ) (n : ℕ) (a : A) {out' : List ℕ} → out' ≡ put out n (numbers_of a) → output out' (n + 1) ≡ pushed numbers numbers_of (output out n) a
  put_pushed out n a e =
      ap (λ (o : List ℕ). output o (n + 1)) e
      ∙ split (ltb n (capacity numbers (length out)))
      (λ t.
      let h = ltb-true n (capacity numbers (length out)) t in
      ap (λ (o : List ℕ). output o (n + 1)) (put_room out (numbers_of a) n (rw (sized a) h) ∙ ap (λ (k : ℕ). set_all out (n * k) (numbers_of a)) (sized a))
      ∙ sym (pushed_room numbers numbers_of (output out n) a h))
      (λ f.
      let h = ltb-false n (capacity numbers (length out)) f in
      ap (λ (o : List ℕ). output o (n + 1)) (put_full out (numbers_of a) n (rw (sized a) h))
      ∙ sym (pushed_full numbers numbers_of (output out n) a h))

  -- Where there is no room all are counted alone.
  all_full : (l : List A) (out : List ℕ) (n : ℕ) → capacity numbers (length out) ≤ n → pushed_all numbers numbers_of (output out n) l ≡ output out (n + length l)
  unfolding pushed_all
  all_full [] out n h = rw add-zero
  all_full (a ∷ l) out n h =
      rw (pushed_full numbers numbers_of (output out n) a h) (all_full l out (n + 1) (omega arith) ∙ ap (output out) (omega arith))

  -- An item written after so many.
  next_written : (done rest : List ℕ) (n : ℕ) (a : A) → length done ≡ n * numbers → numbers ≤ length rest
      → pushed numbers numbers_of (output (done ++ rest) n) a ≡ output ((done ++ numbers_of a) ++ drop numbers rest) (n + 1)
  unfolding capacity overwritten
  next_written done rest n a h l =
      let fits : n < length (done ++ rest) / numbers =
      (le-div_iff_mul-le some).1 (omega (arith, length-append done rest, suc-mul n numbers)) in
      let set : set_all (done ++ rest) (n * numbers) (numbers_of a) ≡ done ++ overwritten (numbers_of a) rest =
      rw (← h) (set_all_after (numbers_of a) done rest (rw (sized a) l)) in
      let over : done ++ overwritten (numbers_of a) rest ≡ (done ++ numbers_of a) ++ drop numbers rest =
      ap (λ (k : ℕ). done ++ (numbers_of a ++ drop k rest)) (sized a) ∙ sym (append_assoc done (numbers_of a) (drop numbers rest)) in
      pushed_room numbers numbers_of (output (done ++ rest) n) a fits ∙ ap (λ (o : List ℕ). output o (n + 1)) (set ∙ over)

  take_none : (k : ℕ) → take {A = A} k [] ≡ []
  take_none zero = refl
  take_none (suc k) = refl

  -- Items listed after so many.
  all_written : (l : List A) (done rest : List ℕ) (n : ℕ) → length done ≡ n * numbers
      → pushed_all numbers numbers_of (output (done ++ rest) n) l
      ≡ output (done ++ overwritten (joined (map numbers_of (take (length rest / numbers) l))) rest) (n + length l)
  unfolding pushed_all overwritten joined capacity
  all_written [] done rest n h = rw (take_none (length rest / numbers), add-zero)
  all_written (a ∷ l) done rest n h =
      split (leb numbers (length rest))
      (λ t.
      let room = leb-true numbers (length rest) t in
      let left : length rest / numbers ≡ suc (length (drop numbers rest) / numbers) =
      div-eq-sub-div some room ∙ rw (length-drop numbers rest) (omega arith) in
      let written : length (done ++ numbers_of a) ≡ (n + 1) * numbers = omega (arith, length-append done (numbers_of a), sized a, add-mul n 1 numbers, one-mul numbers) in
      rw (next_written done rest n a h room, left)
      (all_written l (done ++ numbers_of a) (drop numbers rest) (n + 1) written
      ∙ ap (λ (o : List ℕ). output o (n + 1 + length l)) (rw (sized a) at (over_over done (numbers_of a) (joined (map numbers_of (take (length (drop numbers rest) / numbers) l))) rest))
      ∙ ap (output _) (omega arith)))
      (λ f.
      let none : length rest / numbers ≡ 0 = div-eq_of_lt (leb-false numbers (length rest) f) in
      rw none
      (all_full (a ∷ l) (done ++ rest) n
      (omega (arith, ap (λ (k : ℕ). k / numbers) (length-append done rest ∙ ap (λ (k : ℕ). k + length rest) h), mul-add-div_right some n (length rest)))))

  -- Groups listed from the start leave what `lay` says.
  pub all_laid : (groups : List (List A)) (out : List ℕ)
      → pushed_all numbers numbers_of (output out 0) (joined groups) ≡ output (lay numbers numbers_of groups out).out (length (joined groups))
  unfolding lay capacity
  all_laid groups out = all_written (joined groups) [] out 0 (sym (zero-mul numbers)) ∙ ap (output _) (zero-add (length (joined groups)))

-- Whether laying refuses or counts.
module _ {A : Type 0} (numbers : ℕ) (numbers_of : A → List ℕ) (groups : List (List A)) (out : List ℕ) where
  pub lay_many : capacity numbers (length out) < length (joined groups) → (lay numbers numbers_of groups out).answer ≡ refused 9 (capacity numbers (length out))
  unfolding lay
  lay_many h = applies _ _ _ (lt-ltb _ _ h)

  pub lay_fits : length (joined groups) ≤ capacity numbers (length out) → (lay numbers numbers_of groups out).answer ≡ accepted (map length groups)
  unfolding lay answer
  lay_fits h = passes _ [] _ (le-ltb _ _ h)
