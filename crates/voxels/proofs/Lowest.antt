-- A check of each voxel of the box as its reader has it: its place is the lowest index of a voxel that it applies to, and where nothing is refused it applies to none. Refusal 8 is such a check.
use Rattle.std.proofs.Common.{◌≡◌, ℕ, zero, suc, ◌+◌, ◌-◌, ◌*◌, ◌<◌, ◌≤◌, true, false, List, [], ◌∷◌, ◌++◌, map, get_or, sym, refl, ◌∙◌, mul-le-mul_right, suc-mul, mul_comm, mul-one, arith}
use mathlib.Core.Bool.{false≢true}
use borrow.Author.Tests.{eqb-false}
use Rattle.geometry.specs.declared.axis.Axis.TheVariants.{X, Y, Z}
use Rattle.geometry.specs.Point.{Point, along}
use Rattle.geometry.specs.Refusal.{accepted, refused, Check, answer, checked}
use Rattle.geometry.specs.Lists.{Each}
use Rattle.geometry.proofs.Refusals.{split, refused_number, refused_place, not_both, applies, passes, first_passes, rest_accepts}
use Rattle.geometry.proofs.Lists.{each_up}
use Rattle.voxels.specs.Voxel.{class}
use Rattle.voxels.specs.Shape.{index, stride, field}
use Rattle.voxels.specs.Extent.{box, interior, scan, Inside}
use Rattle.voxels.specs.Loop.{looped, every}
use Rattle.voxels.specs.Checks.{bad_voxel_at, bad_voxels}
use Rattle.voxels.specs.Statements.{LowestBad, NoneBad}
use Rattle.voxels.specs.Entered.{Held, SoundAround}
use Rattle.voxels.specs.Rows.{row, rows, slices}
use Rattle.voxels.proofs.Scan.{scan_inside, inside_scan}
use Rattle.voxels.proofs.Voxels.{class_small}
use Rattle.voxels.proofs.Held.{each_flat}
use Rattle.voxels.proofs.Steps.{along_next}

-- ---- checks whose places ascend

-- The places of some checks go up, from `lo` on and below `hi`.
abbrev Ascend : ℕ → ℕ → List Check → Type 0
Ascend lo hi [] = lo ≤ hi
Ascend lo hi (c ∷ cs) = (lo ≤ c.place) × Ascend (c.place + 1) hi cs

ascend_append : (lo mid hi : ℕ) (cs ds : List Check) → Ascend lo mid cs → Ascend mid hi ds → Ascend lo hi (cs ++ ds)
ascend_append lo mid hi [] [] h g = omega arith
ascend_append lo mid hi [] (d ∷ ds) h g = (omega arith, g.1)
ascend_append lo mid hi (c ∷ cs) ds h g = (h.0, ascend_append (c.place + 1) mid hi cs ds h.1 g)

ascend_wider : (lo hi hi' : ℕ) (cs : List Check) → hi ≤ hi' → Ascend lo hi cs → Ascend lo hi' cs
ascend_wider lo hi hi' [] l h = omega arith
ascend_wider lo hi hi' (c ∷ cs) l h = (h.0, ascend_wider (c.place + 1) hi hi' cs l h.1)

-- A loop whose every list ascends within its stride ascends.
ascend_every : (d : ℕ) (g : ℕ → List Check) → ((i : ℕ) → Ascend i (i + d) (g i)) → (n a : ℕ) → Ascend a (a + n * d) (every d a n g)
unfolding looped
ascend_every d g h zero a = omega arith
ascend_every d g h (suc n) a =
    let e : a + d + n * d ≡ a + suc n * d = omega (arith, suc-mul n d) in
    ascend_append a (a + d) (a + suc n * d) (g a) (every d (a + d) n g) (h a) (rw e at (ascend_every d g h n (a + d)))

-- What is gathered in a row of voxels does, and in rows that are not wider than their stride, and in slices whose rows are not more than theirs.
module _ (g : ℕ → List Check) (one : (i : ℕ) → Ascend i (i + 1) (g i)) (wide d high e : ℕ) (fits : wide ≤ d) (fit : high * d ≤ e) where
  ascend_row : (i : ℕ) → Ascend i (i + d) (row g wide i)
  unfolding row
  ascend_row i = ascend_wider i (i + wide * 1) (i + d) (every 1 i wide g) (omega (arith, mul-one wide)) (ascend_every 1 g one wide i)

  ascend_rows : (i : ℕ) → Ascend i (i + e) (rows g wide d high i)
  unfolding rows
  ascend_rows i = ascend_wider i (i + high * d) (i + e) (every d i high (row g wide)) (omega arith) (ascend_every d (row g wide) ascend_row high i)

  ascend_slices : (deep i : ℕ) → Ascend i (i + deep * e) (slices g wide d high e deep i)
  unfolding slices
  ascend_slices deep i = ascend_every e (rows g wide d high) ascend_rows deep i

-- ---- the first is the lowest

-- Checks that ascend from `lo` on have no lower place.
from_low : (lo hi : ℕ) (cs : List Check) → Ascend lo hi cs → Each (λ (c : Check). lo ≤ c.place) cs
unfolding Each
from_low lo hi [] h = tt
from_low lo hi (c ∷ cs) h = (h.0, each_up _ _ (λ d l. omega arith) cs (from_low (c.place + 1) hi cs h.1))

first_lowest : (lo hi : ℕ) (cs : List Check) (n k : ℕ) → Ascend lo hi cs → checked cs ≡ refused n k → Each (λ (c : Check). c.applies ≡ true → k ≤ c.place) cs
unfolding Each answer
first_lowest lo hi [] n k h e = tt
first_lowest lo hi (c ∷ cs) n k h e =
    split c.applies
    (λ t.
    let is : c.place ≡ k = refused_place (sym (applies c cs tt t) ∙ e) in
    (λ _. omega arith, each_up _ _ (λ d l _. omega arith) cs (from_low (c.place + 1) hi cs h.1)))
    (λ f. (λ t. absurd (false≢true (sym f ∙ t)), first_lowest (c.place + 1) hi cs n k h.1 (sym (passes c cs tt f) ∙ e)))

-- ---- checks made of a list

module _ {A : Type 0} (c : A → Check) where
  -- One that refuses is found,
  found : (P : A → Type 0) (l : List A) (n k : ℕ) → Each P l → checked (map c l) ≡ refused n k
      → (a : A) × P a × ((c a).applies ≡ true) × ((c a).number ≡ n) × ((c a).place ≡ k)
  unfolding Each answer
  found P [] n k h e = absurd (not_both e)
  found P (a ∷ l) n k h e =
      split (c a).applies
      (λ t. let is = sym (applies (c a) (map c l) tt t) ∙ e in (a, h.0, t, refused_number is, refused_place is))
      (λ f. found P l n k h.1 (sym (passes (c a) (map c l) tt f) ∙ e))

  -- and where all pass none applies.
  none : (l : List A) → checked (map c l) ≡ accepted tt → Each (λ (a : A). (c a).applies ≡ false) l
  unfolding Each answer
  none [] e = tt
  none (a ∷ l) e = (first_passes (c a) (map c l) tt e, none l (rest_accepts (c a) (map c l) tt e))

  -- What holds of each check holds of each of the list.
  of_each : (P : Check → Type 0) (l : List A) → Each P (map c l) → Each (λ (a : A). P (c a)) l
  unfolding Each
  of_each P [] h = tt
  of_each P (a ∷ l) h = (h.0, of_each P l h.1)

-- ---- a check of each voxel of the box, its index as its place

module _ (shape : Point) (lent : ℕ) (min max : Point) (h : Held shape lent min max) (ask : ℕ → Check) (own : (i : ℕ) → (ask i).place ≡ i) where
  abbrev here : Point → Check
  here p = ask (index shape p)

  ascends : Ascend (index shape min) (index shape min + (max.z - min.z + 1) * stride shape Z) (map here (scan (box min max)))
  unfolding stride along
  ascends =
      rw (each_flat shape lent min max h ask)
      (ascend_slices (λ (i : ℕ). ask i ∷ []) (λ i. (omega (arith, own i), omega (arith, own i))) (max.x - min.x + 1) (stride shape Y) (max.y - min.y + 1) (stride shape Z)
      (omega (arith, h.within X, h.spans X))
      (omega (arith, mul_comm shape.x shape.y, mul-le-mul_right {m = max.y - min.y + 1} {n = shape.y} shape.x (omega (arith, h.within Y, h.spans Y))))
      (max.z - min.z + 1) (index shape min))

  -- Where it refuses, it applies to a voxel in the box whose index is the place,
  pub asked_applies : (n k : ℕ) → checked (map here (scan (box min max))) ≡ refused n k
      → (p : Point) × Inside (box min max) p × ((here p).applies ≡ true) × ((here p).number ≡ n) × ((here p).place ≡ k)
  asked_applies n k e = found here (Inside (box min max)) (scan (box min max)) n k (scan_inside (box min max)) e

  -- and to none in the box with a lower index.
  pub asked_lowest : (n k : ℕ) → checked (map here (scan (box min max))) ≡ refused n k → (p : Point) → Inside (box min max) p → (here p).applies ≡ true → k ≤ (here p).place
  asked_lowest n k e = inside_scan _ (box min max) (of_each here _ (scan (box min max)) (first_lowest _ _ _ n k ascends e))

  -- Where it does not refuse it applies to no voxel of the box.
  pub asked_none : checked (map here (scan (box min max))) ≡ accepted tt → (p : Point) → Inside (box min max) p → (here p).applies ≡ false
  asked_none e = inside_scan _ (box min max) (none here (scan (box min max)) e)

-- ---- refusal 8

module _ (shape : Point) (lent : ℕ) (min max : Point) (h : Held shape lent min max) (voxels : List ℕ) where
  -- Its place is the lowest index of a bad voxel in the box.
  pub lowest_index : (n k : ℕ) → checked (bad_voxels voxels shape min max) ≡ refused n k → (n ≡ 8) × LowestBad shape min max voxels k
  unfolding bad_voxels field
  lowest_index n k e =
      let it = asked_applies shape lent min max h (bad_voxel_at voxels) (λ i. refl) n k e in (
        sym it.3,
        record {
          voxel = it.0;
          inside = it.1;
          is_bad = it.2;
          index_is = it.4;
          lowest = asked_lowest shape lent min max h (bad_voxel_at voxels) (λ i. refl) n k e;
        },
      )

  -- Where it is not given no voxel of the box is bad.
  pub none_bad : checked (bad_voxels voxels shape min max) ≡ accepted tt → NoneBad shape min max voxels
  unfolding bad_voxels field
  none_bad e = asked_none shape lent min max h (bad_voxel_at voxels) (λ i. refl) e

  -- So, where voxels are numbers of 16 bits, every voxel of the box around the interior is of one of the other classes.
  pub sound_around : checked (bad_voxels voxels shape min max) ≡ accepted tt → ((i : ℕ) → get_or voxels i 0 < 65_536) → SoundAround voxels shape (interior min max)
  unfolding field
  sound_around e small p around =
      let lies : Inside (box min max) p = λ a. let near = around a in (omega (arith, along_next a min), omega (arith, along_next a max)) in
      let v = get_or voxels (index shape p) 0 in
      let other = eqb-false (class v) 3 (none_bad e p lies) in
      omega (arith, class_small v refl (small (index shape p)))
