-- Laws of the way to a byte of a file, where a refusal stands: of what is left of a file, and of the loops to a section and to a quad.
use mathlib.Core.List.{List, []}
use mathlib.Core.Path.{◌≡◌, refl, sym, ◌∙◌}
use Prim.Native.Nat.{ℕ, zero, suc, min, ◌+◌, ◌-◌, ◌*◌, ◌≤◌, ◌<◌}
use native.Mathlib.Omega.{arith}
use lib.Dec.{ltb}
use lib.ListN.{length, drop, drop_of_length-le}
use lib.Seq.{drop-nil}
use borrow.Author.Tests.{lt-ltb, le-ltb, ltb-true, ltb-false}
use Rattle.geometry.proofs.Refusals.{split}
use Rattle.voxels.proofs.Loops.{more, done}
use Rattle.saved.specs.Read.{count_in, extent_in, after_section}
use Rattle.saved.specs.Where.{from_section_in, from_quad_in, from_section}

-- ---- one section

-- Nothing follows a section whose count is not there.
pub nothing_after : (size : ℕ) (b : List ℕ) → length b < 4 → [] ≡ after_section size b
unfolding after_section
nothing_after size b h = rw (drop_of_length-le b {i = 4} (omega arith)) (sym (drop-nil (extent_in size b)))

-- ---- the loops over sections

-- Section 0 begins the file.
pub section_0 : (b : List ℕ) (numbers : ℕ) {s : ℕ} → s ≡ 0 → b ≡ from_section numbers s b
unfolding from_section
section_0 b numbers e = rw e

-- The way to another begins after it,
pub section_start : (b : List ℕ) (numbers s : ℕ) {rest : List ℕ} → (s ≡ 0 → ⊥) → rest ≡ after_section 1 b → from_section_in (numbers * 4) 6 (s - 1) rest ≡ from_section numbers s b
unfolding from_section
section_start b numbers zero some is = absurd (some refl)
section_start b numbers (suc s) some is =
    let before : suc s - 1 ≡ s = omega arith in
    rw (before, is)

module _ (size c s : ℕ) (b : List ℕ) {t : List ℕ} (left : from_section_in size (7 - c) (s - c) b ≡ t) where
  -- goes on after each,
  pub section_next : {rest : List ℕ} → c < 7 → c < s → rest ≡ after_section size b → from_section_in size (7 - (c + 1)) (s - (c + 1)) rest ≡ t
  unfolding from_section_in
  section_next h some is = rw is (rw (more c 7 h, more c s some) at left)

  section_here : s ≤ c → b ≡ t
  unfolding from_section_in
  section_here h = here (7 - c) (rw (done c s h) at left)
    where
      here : (n : ℕ) → from_section_in size n 0 b ≡ t → b ≡ t
      here zero e = e
      here (suc n) e = e

  section_last : 7 ≤ c → b ≡ t
  unfolding from_section_in
  section_last h = rw (done c 7 h) at left

  -- and ends where it is the next, or after the last.
  pub section_end : min s 7 ≤ c → b ≡ t
  section_end h = split (ltb s 7) (λ y. section_here (omega (arith, ltb-true s 7 y))) (λ n. section_last (omega (arith, ltb-false s 7 n)))

-- A section has the quad,
pub quad_in_lem : (size n q : ℕ) (b : List ℕ) → q < count_in b → from_quad_in size (suc n) q b ≡ drop (q * size) (drop 4 b)
unfolding from_quad_in
quad_in_lem size n q b h = rw (lt-ltb q (count_in b) h, from_quad_in)

-- or it is sought after it.
pub quad_past : (size n q : ℕ) (b : List ℕ) → count_in b ≤ q → from_quad_in size (suc n) q b ≡ from_quad_in size n (q - count_in b) (after_section size b)
unfolding from_quad_in
quad_past size n q b h = rw (le-ltb q (count_in b) h, from_quad_in)

-- In nothing there is no quad,
none_in_none : (size n q : ℕ) → from_quad_in size n q [] ≡ []
unfolding from_quad_in after_section
none_in_none size zero q = refl
none_in_none size (suc n) q =
    split (ltb q (count_in []))
    (λ t. rw (t, from_quad_in) (drop-nil (q * size)))
    (λ f. rw (f, from_quad_in, drop-nil (extent_in size [])) (none_in_none size n (q - count_in [])))

-- nor where nothing follows a count.
none_after_count : (size n q : ℕ) (b : List ℕ) → drop 4 b ≡ [] → from_quad_in size (suc n) q b ≡ []
unfolding from_quad_in after_section
none_after_count size n q b none =
    split (ltb q (count_in b))
    (λ t. rw (t, from_quad_in, none) (drop-nil (q * size)))
    (λ f. rw (f, from_quad_in, none, drop-nil (extent_in size b)) (none_in_none size n (q - count_in b)))

module _ (size k left : ℕ) (b : List ℕ) {t : List ℕ} (way : from_quad_in size (6 - k) left b ≡ t) where
  -- The way to a quad ends with the file where a count is not there,
  pub quad_short : k < 6 → length b < 4 → [] ≡ t
  quad_short h few = sym (none_after_count size (6 - (k + 1)) left b (drop_of_length-le b {i = 4} (omega arith))) ∙ rw (more k 6 h) at way

  -- ends in the section that has the quad,
  pub quad_here : {n : ℕ} {rest : List ℕ} → k < 6 → n ≡ count_in b → left < n → rest ≡ drop (left * size) (drop 4 b) → rest ≡ t
  quad_here h is l e = e ∙ rw (more k 6 h, quad_in_lem size (6 - (k + 1)) left b (rw (← is) l)) at way

  -- goes on after each other,
  pub quad_next : {n : ℕ} {rest : List ℕ} → k < 6 → n ≡ count_in b → n ≤ left → rest ≡ after_section size b → from_quad_in size (6 - (k + 1)) (left - n) rest ≡ t
  quad_next h is l e = rw (e, is) (rw (more k 6 h, quad_past size (6 - (k + 1)) left b (rw (← is) l)) at way)

  -- and ends after the last.
  pub quad_last : 6 ≤ k → b ≡ t
  unfolding from_quad_in
  quad_last h = rw (done k 6 h) at way
