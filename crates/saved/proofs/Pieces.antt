-- Laws of pieces of a list: one less of them, two lots of them, and those of a list that was cut. And of the numbers and quads that are read from them.
use mathlib.Core.List.{List, [], ◌∷◌, ◌++◌}
use mathlib.Core.Path.{◌≡◌, refl, sym, ◌∙◌, ap}
use Prim.Native.Nat.{ℕ, zero, suc, ◌+◌, ◌-◌, ◌*◌, ◌/◌, ◌≤◌, ◌<◌}
use native.Mathlib.Nat.{zero-add, suc-add, zero-mul, not-suc-le-zero, mul-div_cancel, add-div_left}
use Rattle.std.proofs.Common.{Some, None, get_or}
use Rattle.std.proofs.lemmas.Nat.{div_below}
use native.Mathlib.Omega.{arith}
use denote.Ref.{Bor}
use lib.ListN.{length, take, drop, length-append}
use lib.Seq.{take-take, drop-drop, take_at, drop_at}
use Rattle.std.specs.declared.slice.ChunksExact.{ChunksExact}
use Rattle.std.specs.Slice.Iter.{chunks_exact_rest, chunks_exact_size, chunks_exact_steps}
use Rattle.std.proofs.lemmas.Iterator.{YieldsList}
use Rattle.std.proofs.lemmas.Iterator.Splits.{YieldsList-from_shown_while}
use Rattle.std.specs.List.{enumerate_from}
use Rattle.std.proofs.lemmas.List.{drop-take, get_or_default}
use Rattle.std.proofs.lemmas.List.FromFn.{length-enumerate_from, get_or-enumerate_from}
use Rattle.geometry.specs.Point.{at}
use Rattle.voxels.proofs.Loops.{more, done}
use Rattle.listing.specs.Listing.{joined}
use Rattle.greedy.specs.Call.{quad_from}
use Rattle.writing.proofs.Rest.{quad_cut}
use Rattle.saved.specs.Bytes.{number, number32, pieces, read_all}
use Rattle.saved.specs.Form.{quad_size}
use Rattle.saved.specs.Read.{quad_in}
use Rattle.saved.specs.Private.{quad_of}
use Rattle.saved.proofs.Items.{one_more, pieces_length}

-- ---- a list that was cut

drop_cut : {A : Type 0} (n m : ℕ) (l : List A) → n ≤ m → drop n (take m l) ≡ take (m - n) (drop n l)
drop_cut n m l h = let whole : n + (m - n) ≡ m = omega arith in rw whole at (drop-take n (m - n) l)

-- Its pieces are those of the list itself, as far as they go.
pub pieces_cut : {A : Type 0} (size n m : ℕ) (l : List A) → n * size ≤ m → pieces size n (take m l) ≡ pieces size n l
unfolding pieces
pieces_cut size zero m l h = refl
pieces_cut size (suc n) m l h =
    let room : size + n * size ≤ m = omega (arith, one_more n size) in
    rw (take-take size m l (omega arith), drop_cut size m l (omega arith), pieces_cut size n (m - size) (drop size l) (omega arith))

-- ---- a loop over pieces

-- The whole chunks of a list are its pieces.
module _ {A : Type 0} (size : ℕ) (some : 1 ≤ size) where
  abbrev left : ChunksExact A → List (List A)
  left s = pieces size (length (chunks_exact_rest s) / size) (chunks_exact_rest s)

  chunks_end : (s t : ChunksExact A) → chunks_exact_size s ≡ size → chunks_exact_steps s None t → length (left s) ≡ 0
  chunks_end s t sized h =
      let few : length (chunks_exact_rest s) < size = rw (← sized) h.1.0 in
      pieces_length size (length (chunks_exact_rest s) / size) (chunks_exact_rest s) ∙ omega (arith, div_below (length (chunks_exact_rest s)) size 1 some (omega arith))

  chunks_step : (s : ChunksExact A) (x : Bor (List A)) (t : ChunksExact A) → chunks_exact_size s ≡ size → chunks_exact_steps s (Some x) t → (chunks_exact_size t ≡ size) × (left s ≡ x.now ∷ left t)
  unfolding pieces
  chunks_step s x t sized h =
      let long : length x.now ≡ size = h.1.1 ∙ sized in
      let more_rest : length (chunks_exact_rest s) / size ≡ suc (length (chunks_exact_rest t) / size) =
      rw (h.1.0, length-append, long) (omega (arith, add-div_left (length (chunks_exact_rest t)) {k = size} some)) in
      (h.0 ∙ sized, rw (more_rest, h.1.0, take_at x.now (chunks_exact_rest t) size long, drop_at x.now (chunks_exact_rest t) size long))

  pub chunks_are_pieces : {s : ChunksExact A} (n : ℕ) (l : List A) → chunks_exact_size s ≡ size → chunks_exact_rest s ≡ l → length l ≡ n * size
      → YieldsList chunks_exact_steps (λ (x : Bor (List A)). x.now) s (pieces size n l)
  chunks_are_pieces {s} n l sized is long =
      let many : length (chunks_exact_rest s) / size ≡ n = rw (is, long) (mul-div_cancel n {n = size} some) in
      rw (← is, ← many) (YieldsList-from_shown_while chunks_exact_steps (λ (x : Bor (List A)). x.now) left (λ (s : ChunksExact A). chunks_exact_size s ≡ size) chunks_end chunks_step s sized)

-- An item that is counted is the one of that number.
pub counted : {A : Type 0} (ps : List (List A)) (i k : ℕ) (q : List A) → i < length (enumerate_from 0 ps) → (k, q) ≡ get_or (enumerate_from 0 ps) i (k, q) → (i < length ps) × (k ≡ i) × (q ≡ get_or ps i [])
counted {A} ps i k q h is =
    let inside : i < length ps = omega (arith, length-enumerate_from 0 ps) in
    let both = is ∙ get_or-enumerate_from 0 ps i (k, q) inside in
    (inside, omega (arith, ap (λ (p : ℕ × List A). p.0) both), ap (λ (p : ℕ × List A). p.1) both ∙ get_or_default ps i q [] inside)

-- ---- items that are read

module _ {A : Type 0} (size : ℕ) (read : List ℕ → A) where
  -- The first of them are fewer, read from the same list;
  pub read_first : (k n : ℕ) (l : List ℕ) → k ≤ n → take k (read_all size read n l) ≡ read_all size read k l
  unfolding pieces
  read_first zero n l h = refl
  read_first (suc k) zero l h = absurd (not-suc-le-zero h)
  read_first (suc k) (suc n) l h = ap (λ (r : List A). read (take size l) ∷ r) (read_first k n (drop size l) (omega arith))

  -- and two lots of them are one.
  pub read_both : (n m : ℕ) (l : List ℕ) → read_all size read (n + m) l ≡ read_all size read n l ++ read_all size read m (drop (n * size) l)
  unfolding pieces
  read_both zero m l = rw (zero-add m, zero-mul size)
  read_both (suc n) m l = rw (suc-add n m, one_more n size, ← drop-drop (n * size) size l) (ap (λ (r : List A). read (take size l) ∷ r) (read_both n m (drop size l)))

-- ---- numbers

-- A number is read from its own bytes.
pub number_cut : (k : ℕ) (l : List ℕ) → number k (take k l) ≡ number k l
unfolding number
number_cut zero l = refl
number_cut (suc k) [] = refl
number_cut (suc k) (b ∷ l) = rw (number_cut k l)

-- Of n numbers that some bytes begin with, those that are left after k: one, and those after it.
pub numbers_next : (b : List ℕ) (k n : ℕ) → k < n → read_all 4 number32 (n - k) (drop (4 * k) b) ≡ number32 (drop (4 * k) b) ∷ read_all 4 number32 (n - (k + 1)) (drop (4 * (k + 1)) b)
unfolding pieces
numbers_next b k n h =
    let next : 4 * k + 4 ≡ 4 * (k + 1) = omega arith in
    rw (more k n h, number_cut 4 (drop (4 * k) b), drop-drop 4 (4 * k) b, next)

pub numbers_none : (b : List ℕ) (k n : ℕ) → n ≤ k → read_all 4 number32 (n - k) (drop (4 * k) b) ≡ []
unfolding pieces
numbers_none b k n h = rw (done k n h)

-- ---- quads

-- A quad of five numbers, one after another.
pub quad_made : (b : List ℕ) → record { minimum = at (number32 b) (number32 (drop 4 b)) (number32 (drop 8 b)); width = number32 (drop 12 b); height = number32 (drop 16 b) } ≡ quad_of b
unfolding quad_from pieces
quad_made b =
    rw (
      drop-drop 4 4 b,
      drop-drop 4 8 b,
      drop-drop 4 12 b,
      number_cut 4 b,
      number_cut 4 (drop 4 b),
      number_cut 4 (drop 8 b),
      number_cut 4 (drop 12 b),
      number_cut 4 (drop 16 b),
    )

module _ (numbers : ℕ) where
  -- A quad is that of its first five numbers.
  pub quad_first : (b : List ℕ) → 5 ≤ numbers → quad_from (quad_in numbers b) ≡ quad_of b
  quad_first b h = sym (quad_cut 5 (quad_in numbers b) (omega arith)) ∙ ap quad_from (read_first 4 number32 5 numbers b h)

  -- The numbers of quads, end to end, are the numbers of their bytes.
  pub quads_flat : (n : ℕ) (l : List ℕ) → joined (read_all (quad_size numbers) (quad_in numbers) n l) ≡ read_all 4 number32 (n * numbers) l
  unfolding pieces joined
  quads_flat zero l = rw (zero-mul numbers)
  quads_flat (suc n) l =
      rw (one_more n numbers, read_both 4 number32 numbers (n * numbers) l, pieces_cut 4 numbers (quad_size numbers) l (omega arith), quads_flat n (drop (quad_size numbers) l))
