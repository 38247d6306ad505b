-- Marks: which bytes marking a row or a rectangle sets, by index, and that in coordinates they tell which points a group has visited.
use mathlib.Core.List.{List}
use mathlib.Core.Path.{◌≡◌, refl, ◌∙◌}
use Prim.Native.Nat.{ℕ, ◌+◌, ◌*◌, ◌<◌}
use lib.Dec.{eqb}
use lib.ListN.{length, get_or, set, drop, length-set}
use borrow.Author.Tests.{eqb-true, eqb-false}
use lib.Seq.{get_or-set_same, get_or-set_other, drop-set-lt}
use Rattle.geometry.proofs.Refusals.{split}
use Rattle.voxels.proofs.Loops.{steps_keep, steps_reach}
use Rattle.greedy.specs.Marks.{mark_at, mark_row_at, mark_quad_at}

-- ---- marking, by index

module _ (du wide : ℕ) where
  -- Marking a row keeps the number of bytes,
  pub row_length : (marks : List ℕ) (k i : ℕ) → length (mark_row_at du wide marks k i) ≡ length marks
  unfolding mark_row_at
  row_length marks k i = steps_keep du mark_at (λ (m : List ℕ). length m ≡ length marks) wide 0 i marks (λ k m h e. length-set m _ 1 ∙ e) refl

  -- and those past a bound on its indices,
  pub row_rest : (n : ℕ) (marks : List ℕ) (k i : ℕ) → ((x : ℕ) → x < wide → i + x * du < n) → drop n (mark_row_at du wide marks k i) ≡ drop n marks
  unfolding mark_row_at
  row_rest n marks k i below = steps_keep du mark_at (λ (m : List ℕ). drop n m ≡ drop n marks) wide 0 i marks (λ x m h e. drop-set-lt n m _ 1 (below x h) ∙ e) refl

  -- leaves a byte that is none of the row's as it was,
  pub row_misses : (j c : ℕ) (marks : List ℕ) (k i : ℕ) → ((x : ℕ) → x < wide → j ≡ i + x * du → ⊥) → get_or marks j 0 ≡ c → get_or (mark_row_at du wide marks k i) j 0 ≡ c
  unfolding mark_row_at
  row_misses j c marks k i off e = steps_keep du mark_at (λ (m : List ℕ). get_or m j 0 ≡ c) wide 0 i marks (λ x m h e. get_or-set_other m _ j 1 0 (off x h) ∙ e) e

  -- keeps a set one,
  set_keeps : (j i : ℕ) (m : List ℕ) → get_or m j 0 ≡ 1 → j < length m → get_or (set m i 1) j 0 ≡ 1
  set_keeps j i m e h = split (eqb j i) (λ t. rw (eqb-true j i t) (get_or-set_same m i 1 0 (rw (eqb-true j i t) at h))) (λ f. get_or-set_other m i j 1 0 (eqb-false j i f) ∙ e)

  pub row_keeps : (j : ℕ) (marks : List ℕ) (k i : ℕ) → j < length marks → get_or marks j 0 ≡ 1 → get_or (mark_row_at du wide marks k i) j 0 ≡ 1
  unfolding mark_row_at
  row_keeps j marks k i h e =
      (steps_keep du mark_at (λ (m : List ℕ). (length m ≡ length marks) × (get_or m j 0 ≡ 1)) wide 0 i marks
      (λ x m l q. (length-set m _ 1 ∙ q.0, set_keeps j _ m q.1 (rw q.0 h))) (refl, e)).1

  -- and sets each of its own.
  pub row_hits : (marks : List ℕ) (k i x : ℕ) → x < wide → i + x * du < length marks → get_or (mark_row_at du wide marks k i) (i + x * du) 0 ≡ 1
  unfolding mark_row_at
  row_hits marks k i x l h =
      steps_reach du mark_at (λ (m : List ℕ). length m ≡ length marks) (λ (m : List ℕ). get_or m (i + x * du) 0 ≡ 1) wide 0 i marks
      (λ k m h e. length-set m _ 1 ∙ e)
      (λ k m l q. (length-set m _ 1 ∙ q.0, set_keeps (i + x * du) _ m q.1 (rw q.0 h)))
      x l (λ m e. get_or-set_same m (i + x * du) 1 0 (rw e h)) refl

module _ (du wide dv high : ℕ) where
  -- The same of a rectangle.
  pub quad_length : (marks : List ℕ) (i : ℕ) → length (mark_quad_at du wide dv high marks i) ≡ length marks
  unfolding mark_quad_at
  quad_length marks i = steps_keep dv (mark_row_at du wide) (λ (m : List ℕ). length m ≡ length marks) high 0 i marks (λ k m h e. row_length du wide m _ _ ∙ e) refl

  pub quad_rest : (n : ℕ) (marks : List ℕ) (i : ℕ) → ((x y : ℕ) → x < wide → y < high → i + y * dv + x * du < n) → drop n (mark_quad_at du wide dv high marks i) ≡ drop n marks
  unfolding mark_quad_at
  quad_rest n marks i below =
      steps_keep dv (mark_row_at du wide) (λ (m : List ℕ). drop n m ≡ drop n marks) high 0 i marks (λ y m h e. row_rest du wide n m _ _ (λ x l. below x y l h) ∙ e) refl

  pub quad_misses : (j : ℕ) (marks : List ℕ) (i : ℕ) → ((x y : ℕ) → x < wide → y < high → j ≡ i + y * dv + x * du → ⊥) → get_or (mark_quad_at du wide dv high marks i) j 0 ≡ get_or marks j 0
  unfolding mark_quad_at
  quad_misses j marks i off =
      steps_keep dv (mark_row_at du wide) (λ (m : List ℕ). get_or m j 0 ≡ get_or marks j 0) high 0 i marks
      (λ y m h e. row_misses du wide j (get_or marks j 0) m _ _ (λ x l. off x y l h) e) refl

  pub quad_hits : (marks : List ℕ) (i x y : ℕ) → x < wide → y < high → i + y * dv + x * du < length marks → get_or (mark_quad_at du wide dv high marks i) (i + y * dv + x * du) 0 ≡ 1
  unfolding mark_quad_at
  quad_hits marks i x y lx ly h =
      steps_reach dv (mark_row_at du wide) (λ (m : List ℕ). length m ≡ length marks) (λ (m : List ℕ). get_or m (i + y * dv + x * du) 0 ≡ 1) high 0 i marks
      (λ k m h e. row_length du wide m _ _ ∙ e)
      (λ k m l q. (row_length du wide m _ _ ∙ q.0, row_keeps du wide (i + y * dv + x * du) m _ _ (rw q.0 h) q.1))
      y ly (λ m e. row_hits du wide m _ (i + y * dv) x lx (rw e h)) refl
