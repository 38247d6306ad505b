-- Sums over a list, and how many points an extent has. Points that are counted twice over two lists are counted alike from either side; so of an extent that holds another as many
-- points lie in the other as the other has.
use mathlib.Core.Bool.{Bool, true, false}
use mathlib.Core.List.{List, [], ◌∷◌, ◌++◌}
use mathlib.Core.Path.{◌≡◌, refl, sym, ◌∙◌, ap, fun_ext}
use Prim.Native.Nat.{ℕ, ◌+◌, ◌-◌, ◌*◌}
use native.Mathlib.Nat.{mul-one}
use native.Mathlib.Omega.{arith}
use lib.ListN.{length}
use Rattle.geometry.specs.declared.axis.Axis.{Axis}
use Rattle.geometry.specs.declared.axis.Axis.TheVariants.{X, Y, Z}
use Rattle.geometry.specs.Point.{Point, along}
use Rattle.geometry.specs.Axes.{bit}
use Rattle.geometry.specs.Lists.{Each, how_many}
use Rattle.geometry.proofs.Lists.{each_up}
use Rattle.voxels.specs.Extent.{Inside, scan, inside, same_point, times}
use Rattle.voxels.specs.Loop.{step_by, every}
use Rattle.voxels.proofs.Loops.{loop_length, sum_constant}
use Rattle.voxels.proofs.Times.{inside_yes, same_true, same_itself, scan_once}
use Rattle.rules.specs.Demand.{sum_of, points}
use Rattle.voxels.specs.declared.extent.Extent.{Extent}

-- ---- sums

pub sum_append : {A : Type 0} (g : A → ℕ) (l m : List A) → sum_of g (l ++ m) ≡ sum_of g l + sum_of g m
unfolding sum_of
sum_append g [] m = omega arith
sum_append g (a ∷ l) m = omega (arith, sum_append g l m)

pub sum_plus : {A : Type 0} (g h : A → ℕ) (l : List A) → sum_of (λ (a : A). g a + h a) l ≡ sum_of g l + sum_of h l
unfolding sum_of
sum_plus g h [] = refl
sum_plus g h (a ∷ l) = omega (arith, sum_plus g h l)

-- Measures that agree at each of a list have one sum.
pub sum_same : {A : Type 0} (g h : A → ℕ) (l : List A) → Each (λ (a : A). g a ≡ h a) l → sum_of g l ≡ sum_of h l
unfolding sum_of Each
sum_same g h [] e = refl
sum_same g h (a ∷ l) e = omega (arith, e.0, sum_same g h l e.1)

pub sum_none : {A : Type 0} (l : List A) → sum_of (λ (a : A). 0) l ≡ 0
unfolding sum_of
sum_none [] = refl
sum_none (a ∷ l) = omega (arith, sum_none l)

-- A sum of ones is the length,
pub sum_ones : {A : Type 0} (l : List A) → sum_of (λ (a : A). 1) l ≡ length l
unfolding sum_of
sum_ones [] = refl
sum_ones (a ∷ l) = omega (arith, sum_ones l)

-- and how many pass a test is a sum.
pub sum_bits : {A : Type 0} (test : A → Bool) (l : List A) → sum_of (λ (a : A). bit (test a)) l ≡ how_many test l
unfolding sum_of how_many
sum_bits test [] = refl
sum_bits test (a ∷ l) = omega (arith, sum_bits test l)

pub how_many_append : {A : Type 0} (test : A → Bool) (l m : List A) → how_many test (l ++ m) ≡ how_many test l + how_many test m
how_many_append test l m = sym (sum_bits test (l ++ m)) ∙ sum_append _ l m ∙ omega (arith, sum_bits test l, sum_bits test m)

-- ---- counted twice

-- Two tests that pass together are one.
pub one_test : (a b : Bool) → (a ≡ true → b ≡ true) → (b ≡ true → a ≡ true) → a ≡ b
one_test true b there back = sym (there refl)
one_test false true there back = back refl
one_test false false there back = refl

-- Whether two points are one is the same asked either way round.
same_back : (p q : Point) → same_point p q ≡ same_point q p
same_back p q = one_test _ _ (λ t. rw (same_true p q t) (same_itself q)) (λ t. rw (same_true q p t) (same_itself p))

-- How many times the points of one list stand in another is how many times those of the other stand in the one.
pub times_swap : (l m : List Point) → sum_of (λ (p : Point). times p m) l ≡ sum_of (λ (q : Point). times q l) m
unfolding sum_of times
times_swap [] m = sym (sum_none m)
times_swap (p ∷ l) m = omega (arith, times_swap l m, one m, sum_plus (λ (q : Point). bit (same_point q p)) (λ (q : Point). times q l) m)
  where
    one : (m : List Point) → times p m ≡ sum_of (λ (q : Point). bit (same_point q p)) m
    one [] = refl
    one (q ∷ m) = omega (arith, one m, ap bit (same_back p q))

-- Of an extent's points as many lie in another as the other has, where those all lie in the first.
pub points_inside : (e b : Extent) → Each (Inside e) (scan b) → sum_of (λ (p : Point). bit (inside b p)) (scan e) ≡ points b
points_inside e b h =
    ap (λ (g : Point → ℕ). sum_of g (scan e)) (fun_ext (λ p. sym (scan_once p b)))
    ∙ times_swap (scan e) (scan b)
    ∙ sum_same _ (λ (p : Point). 1) (scan b) (each_up (Inside e) (λ (p : Point). times p (scan e) ≡ 1) (λ p i. scan_once p e ∙ ap bit (inside_yes e p i)) (scan b) h)
    ∙ sum_ones (scan b)

-- ---- how many points an extent has

-- How long an extent is on an axis.
abbrev pub span : Extent → Axis → ℕ
span e a = along a e.bound - along a e.minimum

-- A loop whose lists are alike in length.
pub every_length : {A : Type 0} (g : ℕ → List A) (m n a : ℕ) → ((k : ℕ) → length (g k) ≡ m) → length (every 1 a n g) ≡ n * m
every_length g m n a e = loop_length (step_by 1) g (step_by 1) (λ (k : ℕ). m) n a a (λ k l. e _) ∙ sum_constant (step_by 1) m n a

-- An extent has as many points as its three lengths say.
pub scan_length : (e : Extent) → points e ≡ span e X * (span e Y * span e Z)
unfolding scan along
scan_length e =
    every_length _ (span e Y * span e X) (span e Z) e.minimum.z (λ z. every_length _ (span e X) (span e Y) e.minimum.y (λ y. every_length _ 1 (span e X) e.minimum.x (λ x. refl) ∙ mul-one (span e X)))
    ∙ omega arith
