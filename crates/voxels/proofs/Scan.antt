-- The points of an extent in scan order, and loops over them: rows in memory order, a stride apart. What is gathered from the points one after another is what
-- three nested loops over indices gather.
use Rattle.std.proofs.Common.{◌≡◌, ℕ, ◌+◌, ◌-◌, ◌*◌, ◌<◌, Bool, List, [], ◌∷◌, ◌++◌, map, sym, refl, ap, ◌∙◌, append_assoc, append-nil, mul-one, arith}
use Rattle.geometry.specs.declared.axis.Axis.TheVariants.{X, Y, Z}
use Rattle.geometry.specs.Point.{Point, at, along}
use Rattle.geometry.specs.Lists.{those, Each}
use Rattle.geometry.proofs.Refusals.{split}
use Rattle.geometry.proofs.Lists.{each_append, each_left, each_right}
use Rattle.voxels.specs.Shape.{index, stride}
use Rattle.voxels.specs.Extent.{Inside, up_to, scan}
use Rattle.voxels.specs.Loop.{step_by, every, stand, on_by, in_step}
use Rattle.voxels.specs.Rows.{gathered, kept, row, rows, slices}
use Rattle.voxels.proofs.Loops.{onward_by, onward_both, loop_carried, loops_same, loop_keeps, loop_gives}
use Rattle.voxels.proofs.Places.{index_at}
use Rattle.voxels.specs.declared.extent.Extent.{Extent}

-- ---- what is gathered from a list

-- A value from each is gathered,
pub map_gathered : {A B : Type 0} (f : A → B) (l : List A) → map f l ≡ gathered (λ (a : A). f a ∷ []) l
unfolding gathered
map_gathered f [] = refl
map_gathered f (a ∷ l) = ap (λ (r : List _). f a ∷ r) (map_gathered f l)

-- and so are those that pass a test.
pub those_gathered : {A : Type 0} (test : A → Bool) (l : List A) → those test l ≡ gathered (kept test) l
unfolding those gathered kept
those_gathered test [] = refl
those_gathered test (a ∷ l) = split (test a) (λ t. simp (t, those, kept, those_gathered test l)) (λ f. simp (f, those, kept, those_gathered test l))

gathered_append : {A B : Type 0} (f : A → List B) (l m : List A) → gathered f (l ++ m) ≡ gathered f l ++ gathered f m
unfolding gathered
gathered_append f [] m = refl
gathered_append f (a ∷ l) m = rw (gathered_append f l m) (sym (append_assoc (f a) (gathered f l) (gathered f m)))

gathered_every : {A B : Type 0} (f : A → List B) (d : ℕ) (g : ℕ → List A) (a n : ℕ) → gathered f (every d a n g) ≡ every d a n (λ (k : ℕ). gathered f (g k))
unfolding gathered
gathered_every f d g a n = loop_carried ◌++◌ (gathered f) refl (gathered_append f) (step_by d) g (step_by d) _ n a a (λ k l. refl)

-- ---- two loops that go hand in hand

-- Where the k-th of one gives what the k-th of the other gives, the loops give the same.
pub every_same : {A : Type 0} (c d : ℕ) (g h : ℕ → List A) (n a b : ℕ) → ((k : ℕ) → k < n → g (a + k * c) ≡ h (b + k * d)) → every c a n g ≡ every d b n h
every_same c d g h n a b same = loops_same [] ◌++◌ (step_by c) g (step_by d) h n a b (λ k l. rw (onward_by c a k, onward_by d b k) (same k l))

-- A loop over a coordinate gives what a loop over it and an index a stride apart gives.
pub every_in_step : {A : Type 0} (d : ℕ) (h : ℕ → List A) (g : ℕ → ℕ → List A) (n a i : ℕ) → ((k : ℕ) → k < n → h (a + k) ≡ g (a + k) (i + k * d)) → every 1 a n h ≡ in_step d g a i n
every_in_step d h g n a i same = loops_same [] ◌++◌ (step_by 1) h (on_by d) _ n a (stand a i) (λ k l. rw (onward_by 1 a k, mul-one, onward_both d a i k) (same k l))

-- ---- scan order

-- What is gathered in scan order, as three loops over coordinates.
pub gathered_scan : {A : Type 0} (f : Point → List A) (e : Extent) → gathered f (scan e) ≡
    up_to e.minimum.z e.bound.z (λ (z : ℕ). up_to e.minimum.y e.bound.y (λ (y : ℕ). up_to e.minimum.x e.bound.x (λ (x : ℕ). f (at x y z))))
unfolding scan gathered
gathered_scan f e =
    gathered_every f 1 _ e.minimum.z (e.bound.z - e.minimum.z)
    ∙ loops_same _ _ _ _ _ _ _ _ _ (λ k _.
    gathered_every f 1 _ e.minimum.y (e.bound.y - e.minimum.y)
    ∙ loops_same _ _ _ _ _ _ _ _ _ (λ j _.
    gathered_every f 1 _ e.minimum.x (e.bound.x - e.minimum.x)
    ∙ loops_same _ _ _ _ _ _ _ _ _ (λ i _. append-nil _)))

-- A point so many steps up from the minimum, fewer than to the bound, lies in the extent.
pub inside_at : (e : Extent) (i j k : ℕ) → i < e.bound.x - e.minimum.x → j < e.bound.y - e.minimum.y → k < e.bound.z - e.minimum.z
    → Inside e (at (e.minimum.x + i) (e.minimum.y + j) (e.minimum.z + k))
unfolding along
inside_at e i j k hi hj hk = elim [ X ↦ (omega arith, omega arith) | Y ↦ (omega arith, omega arith) | Z ↦ (omega arith, omega arith) ]

-- The same as three loops over indices, where `f` at a point is `g` at its index.
pub flat_scan : {A : Type 0} (shape : Point) (f : Point → List A) (g : ℕ → List A) (e : Extent)
    → ((p : Point) → Inside e p → f p ≡ g (index shape p))
    → gathered f (scan e) ≡ slices g (e.bound.x - e.minimum.x) (stride shape Y) (e.bound.y - e.minimum.y) (stride shape Z) (e.bound.z - e.minimum.z) (index shape e.minimum)
unfolding row rows slices
flat_scan shape f g e same =
    gathered_scan f e
    ∙ every_same 1 (stride shape Z) _ _ (e.bound.z - e.minimum.z) e.minimum.z (index shape e.minimum) (λ k hk.
    every_same 1 (stride shape Y) _ _ (e.bound.y - e.minimum.y) e.minimum.y (index shape e.minimum + k * stride shape Z) (λ j hj.
    every_same 1 1 _ _ (e.bound.x - e.minimum.x) e.minimum.x (index shape e.minimum + k * stride shape Z + j * stride shape Y) (λ i hi.
    rw (mul-one, mul-one, mul-one)
    (same _ (inside_at e i j k hi hj hk) ∙ ap g (index_at shape e.minimum i j k)))))

-- ---- what holds of each point of an extent

module _ {A : Type 0} (P : A → Type 0) where
  -- A loop gives what holds of each where each of its lists does,
  pub each_every : (g : ℕ → List A) (n a : ℕ) → ((k : ℕ) → k < n → Each P (g (a + k))) → Each P (every 1 a n g)
  unfolding Each
  each_every g n a h = loop_keeps (Each P) tt (each_append P) (step_by 1) g n a (λ k l. rw (onward_by 1 a k, mul-one) (h k l))

  -- and only there.
  pub every_each : (g : ℕ → List A) (n a : ℕ) → Each P (every 1 a n g) → (k : ℕ) → k < n → Each P (g (a + k))
  every_each g n a h k l = rw (onward_by 1 a k, mul-one) at (loop_gives [] (Each P) (λ l m both. (each_left P l m both, each_right P l m both)) (step_by 1) g n a h k l)

-- Every point of the scan lies in the extent,
pub scan_inside : (e : Extent) → Each (Inside e) (scan e)
unfolding scan Each
scan_inside e =
    each_every (Inside e) _ _ _ (λ k hk. each_every (Inside e) _ _ _ (λ j hj. each_every (Inside e) _ _ _ (λ i hi. (inside_at e i j k hi hj hk, tt))))

-- and every point of the extent is in the scan.
pub inside_scan : (P : Point → Type 0) (e : Extent) → Each P (scan e) → (p : Point) → Inside e p → P p
unfolding scan Each along
inside_scan P e h p i =
    let x = i X in let y = i Y in let z = i Z in
    let ex : e.minimum.x + (p.x - e.minimum.x) ≡ p.x = omega arith in
    let ey : e.minimum.y + (p.y - e.minimum.y) ≡ p.y = omega arith in
    let ez : e.minimum.z + (p.z - e.minimum.z) ≡ p.z = omega arith in
    rw (ex, ey, ez) at
    (every_each P _ _ _ (every_each P _ _ _ (every_each P _ _ _ h (p.z - e.minimum.z) (omega arith)) (p.y - e.minimum.y) (omega arith)) (p.x - e.minimum.x) (omega arith)).0
