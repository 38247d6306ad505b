-- Where voxels lie: a point of the shape has an index below X·Y·Z, no two have one, and a step along an axis adds its stride. No law here rests on how long an
-- axis may be.
use Rattle.std.proofs.Common.{◌≡◌, ℕ, ◌+◌, ◌*◌, ◌<◌, ◌≤◌, sym, ap, ◌∙◌, mul_assoc, mul_comm, mul-le-mul_left, mul-zero, mul-one, mul-add, arith}
use Rattle.geometry.specs.declared.axis.Axis.{Axis}
use Rattle.geometry.specs.declared.axis.Axis.TheVariants.{X, Y, Z}
use Rattle.geometry.specs.Point.{Point, at, along, put, moved, unit_vector}
use Rattle.voxels.specs.Shape.{size, index, stride, InShape}

-- A step along an axis adds its stride.
pub index_moved : (shape : Point) (a : Axis) (k : ℕ) (p : Point) → index shape (moved a k p) ≡ index shape p + k * stride shape a
unfolding index moved put along stride
index_moved s X k p = omega (arith, mul-one k)
index_moved s Y k p = omega (arith, mul-add s.x p.y k, mul_comm s.x k)
index_moved s Z k p = omega (arith, mul-add (s.x * s.y) p.z k, mul_comm (s.x * s.y) k)

-- So a point that lies so many steps up from another on each axis has that one's index and so many strides.
pub index_at : (shape p : Point) (i j k : ℕ) → index shape (at (p.x + i) (p.y + j) (p.z + k)) ≡ index shape p + k * stride shape Z + j * stride shape Y + i
unfolding index stride
index_at s p i j k =
    omega (arith, mul-add s.x p.y j, mul_comm s.x j, mul-add (s.x * s.y) p.z k, mul_comm (s.x * s.y) k)

-- An axis' stride is the index of its unit vector, as the Rust computes it.
pub unit_index : (shape : Point) (a : Axis) → index shape (unit_vector a) ≡ stride shape a
unfolding index stride
unit_index s X = omega (arith, mul-zero s.x, mul-zero (s.x * s.y))
unit_index s Y = omega (arith, mul-one s.x, mul-zero (s.x * s.y))
unit_index s Z = omega (arith, mul-zero s.x, mul-one (s.x * s.y))

-- The index of a point in the shape is below X·Y·Z.
pub index_below : (shape p : Point) → InShape shape p → index shape p < size shape
unfolding index size along
index_below s p h =
    let hx : p.x < s.x = h X in
    let hy : s.x * (p.y + 1) ≤ s.x * s.y = mul-le-mul_left s.x (omega (arith, h Y)) in
    let hz : s.x * s.y * (p.z + 1) ≤ s.x * s.y * s.z = mul-le-mul_left (s.x * s.y) (omega (arith, h Z)) in
    omega (arith, mul-add s.x p.y 1, mul-add (s.x * s.y) p.z 1)

-- What is left over from a division, and how often it goes, tell the number and are told by it.
less_often : (n x x' q q' : ℕ) → x < n → x + n * q ≡ x' + n * q' → q < q' → ⊥
less_often n x x' q q' h e l = omega (arith, mul-add n q 1, mul-one n, mul-le-mul_left {m = q + 1} {n = q'} n (omega arith))

one_quotient : (n x x' q q' : ℕ) → x < n → x' < n → x + n * q ≡ x' + n * q' → q ≡ q'
one_quotient n x x' q q' h h' e =
    let a : q' ≤ q = omega (arith, less_often n x x' q q' h e) in
    let b : q ≤ q' = omega (arith, less_often n x' x q' q h' (sym e)) in
    omega arith

-- Two points of the shape with one index are one point.
pub one_point : (shape p q : Point) → InShape shape p → InShape shape q → index shape p ≡ index shape q → p ≡ q
unfolding index along
one_point s p q hp hq e =
    let row : (r : Point) → index s r ≡ r.x + s.x * (r.y + s.y * r.z) = λ r. omega (arith, mul-add s.x r.y (s.y * r.z), mul_assoc s.x s.y r.z) in
    let yz : p.y + s.y * p.z ≡ q.y + s.y * q.z = one_quotient s.x p.x q.x _ _ (hp X) (hq X) (sym (row p) ∙ e ∙ row q) in
    let z : p.z ≡ q.z = one_quotient s.y p.y q.y _ _ (hp Y) (hq Y) yz in
    let y : p.y ≡ q.y = omega (arith, ap (λ (n : ℕ). s.y * n) z) in
    let x : p.x ≡ q.x = omega (arith, row p, row q, ap (λ (n : ℕ). s.x * n) yz) in
    rw (x, y, z)
