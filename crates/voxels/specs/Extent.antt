-- The box, its interior, and the order of their points: document 01, 'Voxels and their places', third and fourth point;
-- simple.rs lines 51 to 56 and 61, greedy.rs 94 to 96, 104 to 106 and 169. The Rust leaves the arithmetic and the order to ilattice (`padded`, `iter3`).
use Rattle.std.specs.Prelude.{ℕ, ◌+◌, ◌-◌, ◌<◌, ◌≤◌, Bool, ◌&&◌, List, [], ◌∷◌, ◌==◌, nat_le, nat_lt}
use Rattle.geometry.specs.declared.axis.Axis.{Axis}
use Rattle.geometry.specs.Point.{Point, at, along}
use Rattle.geometry.specs.Axes.{bit}
use Rattle.voxels.specs.Loop.{every}
use Rattle.voxels.specs.declared.extent.Extent.{Extent}

-- "The box is min to max, max included": its bound is one past max on each axis.
abbrev pub box : Point → Point → Extent
box min max = record { minimum = min; bound = at (max.x + 1) (max.y + 1) (max.z + 1) }

-- "The interior is min+1 to max-1 on each axis": its bound is max. On an axis that spans two voxels the minimum is the bound, and the interior is empty.
abbrev pub interior : Point → Point → Extent
interior min max = record { minimum = at (min.x + 1) (min.y + 1) (min.z + 1); bound = max }

-- A point lies in an extent.
abbrev pub Inside : Extent → Point → Type 0
Inside e p = (a : Axis) → (along a e.minimum ≤ along a p) × (along a p < along a e.bound)

-- The same at a, a + 1, .., up to but not with b.
abbrev pub up_to : {A : Type 0} → ℕ → ℕ → (ℕ → List A) → List A
up_to a b g = every 1 a (b - a) g

-- "Scan order: x fastest, then y, then z." The points of an extent in that order.
unfoldable pub scan : Extent → List Point
scan e =
    up_to e.minimum.z e.bound.z (λ (z : ℕ).
    up_to e.minimum.y e.bound.y (λ (y : ℕ).
    up_to e.minimum.x e.bound.x (λ (x : ℕ). at x y z ∷ [])))

-- Whether a number is one of those from a up to but not with b.
unfoldable pub between : ℕ → ℕ → ℕ → Bool
between a b k = nat_le a k && nat_lt k b

-- Whether a point lies in an extent: the test for `Inside` (proofs/Times.antt, `inside_true` and `inside_yes`).
unfoldable pub inside : Extent → Point → Bool
inside e p =
    (between e.minimum.x e.bound.x p.x && between e.minimum.y e.bound.y p.y)
    && between e.minimum.z e.bound.z p.z

-- Whether two points are one.
unfoldable pub same_point : Point → Point → Bool
same_point p q = (p.x == q.x && p.y == q.y) && p.z == q.z

-- How many times a point stands in a list.
unfoldable pub times : Point → List Point → ℕ
times p [] = 0
times p (q ∷ l) = bit (same_point p q) + times p l
