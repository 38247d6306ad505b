-- Runs of quads, one for each face, listed from their own places on. Runs that are apart do not disturb each other, so that what is listed in turns is what each lists by itself, and those that lie end to end are the groups listed one after another.
use mathlib.Core.List.{List, [], ◌∷◌, ◌++◌, map}
use mathlib.Core.Path.{◌≡◌, refl, sym, ◌∙◌, ap}
use Prim.Native.Nat.{ℕ, zero, suc, ◌+◌, ◌*◌, ◌≤◌, ◌<◌}
use native.Mathlib.Nat.{suc-mul, mul-le-mul_right, not-suc-le-zero}
use native.Mathlib.Omega.{arith}
use lib.Dec.{ltb, eqb}
use lib.ListN.{length, get_or, set, take}
use lib.Seq.{set_comm}
use borrow.Author.Tests.{ltb-true, ltb-false, eqb-true, eqb-false}
use Rattle.geometry.specs.Point.{Point}
use Rattle.geometry.proofs.Refusals.{split}
use Rattle.listing.specs.Listing.{joined, capacity}
use Rattle.listing.specs.Pushed.{set_all, put, Output, output, pushed_all}
use Rattle.listing.proofs.Pushed.{set_all_length, put_room, put_full, put_pushed, pushed_append}
use Rattle.listing.proofs.Groups.{all_counted, groups_next, groups_done}
use Rattle.simple.specs.Unit.{unit_numbers, numbers_of}
use Rattle.simple.specs.List.{laid_run, laid_runs, Apart, RunsListed}
use Rattle.simple.proofs.Outcome.{three}

-- ---- writing at two places

-- A number set past a list's numbers may be set before them.
set_past : (xs out : List ℕ) (k j b : ℕ) → k + length xs ≤ j → set_all (set out j b) k xs ≡ set (set_all out k xs) j b
unfolding set_all
set_past [] out k j b h = refl
set_past (x ∷ xs) out k j b h =
    rw (set_comm out j k b x (λ e. omega (arith, e)))
    (set_past xs (set out k x) (k + 1) j b (omega arith))

-- So may a list's.
set_all_past : (ys xs out : List ℕ) (k j : ℕ) → k + length xs ≤ j → set_all (set_all out j ys) k xs ≡ set_all (set_all out k xs) j ys
unfolding set_all
set_all_past [] xs out k j h = refl
set_all_past (y ∷ ys) xs out k j h =
    rw (← set_past xs out k j y h) (set_all_past ys xs (set out j y) k (j + 1) (omega arith))

-- An item that is written leaves the buffer as long as it was.
put_length : (out item : List ℕ) (p : ℕ) → length (put out p item) ≡ length out
put_length out item p =
    split (ltb p (capacity (length item) (length out)))
    (λ t. ap length (put_room out item p (ltb-true _ _ t)) ∙ set_all_length item out (p * length item))
    (λ f. ap length (put_full out item p (ltb-false _ _ f)))

-- Two items of as many numbers may be written at two places in either order.
put_past : (out item next : List ℕ) (p q : ℕ) → length item ≡ length next → p < q → put (put out q next) p item ≡ put (put out p item) q next
put_past out item next p q same h =
    let room : ℕ = capacity (length next) (length out) in
    let after-item : capacity (length next) (length (put out p item)) ≡ room = ap (capacity (length next)) (put_length out item p) in
    split (ltb q room)
    (λ t.
    let fits = ltb-true q room t in
    let before-item : capacity (length item) (length out) ≡ room = ap (λ (n : ℕ). capacity n (length out)) same in
    let after_next : capacity (length item) (length (put out q next)) ≡ capacity (length item) (length out) = ap (capacity (length item)) (put_length out next q) in
    let apart : p * length item + length item ≤ q * length next = omega (arith, suc-mul p (length item), mul-le-mul_right {m = suc p} {n = q} (length item) (omega arith), ap (λ (n : ℕ). q * n) same) in
    put_room (put out q next) item p (omega arith)
    ∙ ap (λ (o : List ℕ). set_all o (p * length item) item) (put_room out next q fits)
    ∙ set_all_past next item out (p * length item) (q * length next) apart
    ∙ ap (λ (o : List ℕ). set_all o (q * length next) next) (sym (put_room out item p (omega arith)))
    ∙ sym (put_room (put out p item) next q (omega arith)))
    (λ f.
    let full = ltb-false q room f in
    ap (λ (o : List ℕ). put o p item) (put_full out next q full) ∙ sym (put_full (put out p item) next q (omega arith)))

-- ---- a run

-- A run is its first quad's, and then the others'.
run_next : (out : List ℕ) (p : ℕ) (a : Point) (l : List Point) → laid_run out p (a ∷ l) ≡ laid_run (put out p (numbers_of a)) (p + 1) l
unfolding laid_run pushed_all
run_next out p a l = ap (λ (s : Output). (pushed_all unit_numbers numbers_of s l).out) (sym (put_pushed unit_numbers numbers_of (omega arith) three out p a refl))

-- No quads change nothing.
pub run_none : (out : List ℕ) (p : ℕ) → laid_run out p [] ≡ out
unfolding laid_run pushed_all
run_none out p = refl

-- A run's buffer, and where the run ends.
pub run_output : (out : List ℕ) (p : ℕ) (l : List Point) → output (laid_run out p l) (p + length l) ≡ pushed_all unit_numbers numbers_of (output out p) l
unfolding laid_run
run_output out p l = ap (output _) (sym (all_counted unit_numbers numbers_of (output out p) l))

-- A run listed in two parts.
pub run_append : (out : List ℕ) (p : ℕ) (l m : List Point) → laid_run (laid_run out p l) (p + length l) m ≡ laid_run out p (l ++ m)
unfolding laid_run
run_append out p l m =
    ap (λ (s : Output). (pushed_all unit_numbers numbers_of s m).out) (run_output out p l)
    ∙ ap (λ (s : Output). s.out) (sym (pushed_append unit_numbers numbers_of (output out p) l m))

-- A quad past a run may be listed before it,
run_past_one : (l : List Point) (out : List ℕ) (p q : ℕ) (b : Point) → p + length l ≤ q → laid_run (put out q (numbers_of b)) p l ≡ put (laid_run out p l) q (numbers_of b)
run_past_one [] out p q b h = rw (run_none, run_none)
run_past_one (a ∷ l) out p q b h =
    rw (run_next, run_next, put_past out (numbers_of a) (numbers_of b) p q refl (omega arith))
    (run_past_one l (put out p (numbers_of a)) (p + 1) q b (omega arith))

-- and so may a run past it.
pub run_past : (m l : List Point) (out : List ℕ) (p q : ℕ) → p + length l ≤ q → laid_run (laid_run out q m) p l ≡ laid_run (laid_run out p l) q m
run_past [] l out p q h = rw (run_none, run_none)
run_past (b ∷ m) l out p q h =
    rw (run_next, run_next, ← run_past_one l out p q b h)
    (run_past m l (put out q (numbers_of b)) p (q + 1) (omega arith))

-- ---- runs

-- Runs are told by their places and quads.
pub runs_same : (n : ℕ) (out : List ℕ) (at at' : ℕ → ℕ) (quads quads' : ℕ → List Point) → ((f : ℕ) → f < n → at f ≡ at' f) → ((f : ℕ) → f < n → quads f ≡ quads' f)
    → laid_runs out at quads n ≡ laid_runs out at' quads' n
unfolding laid_runs
runs_same zero out at at' quads quads' same_at same = refl
runs_same (suc n) out at at' quads quads' same_at same =
    rw (runs_same n out at at' quads quads' (λ f h. same_at f (omega arith)) (λ f h. same f (omega arith)), same_at n (omega arith), same n (omega arith))

-- Runs of no quads leave the buffer as it was.
pub runs_none : (n : ℕ) (out : List ℕ) (at : ℕ → ℕ) (quads : ℕ → List Point) → ((f : ℕ) → f < n → quads f ≡ []) → laid_runs out at quads n ≡ out
unfolding laid_runs
runs_none zero out at quads none = refl
runs_none (suc n) out at quads none = rw (none n (omega arith), run_none, runs_none n out at quads (λ f h. none f (omega arith)))

-- A run past some runs may be listed before them.
runs_past : (n : ℕ) (out : List ℕ) (at : ℕ → ℕ) (quads : ℕ → List Point) (q : ℕ) (m : List Point) → ((f : ℕ) → f < n → at f + length (quads f) ≤ q)
    → laid_runs (laid_run out q m) at quads n ≡ laid_run (laid_runs out at quads n) q m
unfolding laid_runs
runs_past zero out at quads q m before = refl
runs_past (suc n) out at quads q m before =
    rw (runs_past n out at quads q m (λ f h. before f (omega arith)))
    (run_past m (quads n) (laid_runs out at quads n) (at n) q (before n (omega arith)))

-- Runs of which each ends before the next begins end before any later one.
ends_before : (n : ℕ) (at size : ℕ → ℕ) → ((f : ℕ) → f < n → at f + size f ≤ at (suc f)) → (f : ℕ) → f < n → at f + size f ≤ at n
ends_before zero at size apart f h = absurd (not-suc-le-zero h)
ends_before (suc n) at size apart f h =
    split (eqb f n)
    (λ t. rw (eqb-true f n t) (apart n (omega arith)))
    (λ e. let other = eqb-false f n e in
    let last = apart n (omega arith) in
    let first = ends_before n at size (λ f h. apart f (omega arith)) f (omega arith) in
    omega arith)

-- Runs that are apart may be listed in two turns.
pub runs_append : (n : ℕ) (out : List ℕ) (at : ℕ → ℕ) (quads next : ℕ → List Point) → ((f : ℕ) → suc f < n → at f + length (quads f) + length (next f) ≤ at (suc f))
    → laid_runs (laid_runs out at quads n) (λ (f : ℕ). at f + length (quads f)) next n ≡ laid_runs out at (λ (f : ℕ). quads f ++ next f) n
unfolding laid_runs
runs_append zero out at quads next apart = refl
runs_append (suc n) out at quads next apart =
    let size : ℕ → ℕ = λ f. length (quads f) + length (next f) in
    let close : (f : ℕ) → f < n → at f + size f ≤ at (suc f) = λ f h. omega (arith, apart f (omega arith)) in
    rw (
      runs_past n (laid_runs out at quads n) (λ (f : ℕ). at f + length (quads f)) next (at n) (quads n) (λ f h. omega (arith, ends_before n at size close f h)),
      runs_append n out at quads next (λ f h. apart f (omega arith)),
    )
    (run_append (laid_runs out at (λ (f : ℕ). quads f ++ next f) n) (at n) (quads n) (next n))

-- Runs that lie end to end from the start are the groups listed one after another.
module _ {F : Type 0} (group : F → List Point) (fs : List F) (d : F) (at : ℕ → ℕ) (first : at 0 ≡ 0) (next : (f : ℕ) → f < length fs → at (suc f) ≡ at f + length (group (get_or fs f d))) where
  pub runs_joined : (was : List ℕ) (n : ℕ) → n ≤ length fs → output (laid_runs was at (λ (f : ℕ). group (get_or fs f d)) n) (at n) ≡ pushed_all unit_numbers numbers_of (output was 0) (joined (map group (take n fs)))
  unfolding laid_runs joined pushed_all
  runs_joined was zero h = ap (output was) first
  runs_joined was (suc n) h =
      let one : n + 1 ≡ suc n = omega arith in
      groups_next unit_numbers numbers_of group fs d n was h
      (runs_joined was n (omega arith))
      (ap (output _) (next n h) ∙ run_output _ (at n) (group (get_or fs n d)))
      ∙ ap (λ (k : ℕ). pushed_all unit_numbers numbers_of (output was 0) (joined (map group (take k fs)))) one

  module _ (cursors : List ℕ) (quads : ℕ → List Point) (all : length fs ≡ 6) (places : (f : ℕ) → f < 6 → get_or cursors f 0 ≡ at f) (groups : (f : ℕ) → f < 6 → group (get_or fs f d) ≡ quads f) where
    -- Six cursors that stand so are apart,
    pub joined_apart : Apart cursors quads
    joined_apart f h = omega (arith, places f (omega arith), places (suc f) h, next f (omega arith), ap length (groups f (omega arith)))

    -- and what was listed from them is the groups, one after another.
    pub listed_joined : {was out now : List ℕ} → RunsListed was cursors quads out now → output out (at 6) ≡ pushed_all unit_numbers numbers_of (output was 0) (joined (map group fs))
    listed_joined {was} made =
        ap (λ (o : List ℕ). output o (at 6)) (made.is ∙ runs_same 6 was _ at _ _ places (λ f h. sym (groups f h)))
        ∙ runs_joined was 6 (omega arith)
        ∙ ap (λ (g : List (List Point)). pushed_all unit_numbers numbers_of (output was 0) (joined g)) (groups_done group fs 6 (omega arith))
