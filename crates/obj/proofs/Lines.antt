-- The lines of a quad as they are written: one after another, from what geometry gives for it.
use mathlib.Core.List.{List, ◌++◌, append-nil}
use mathlib.Core.Path.{◌≡◌}
use Prim.Native.Nat.{ℕ, ◌<◌}
use native.Mathlib.Omega.{arith}
use Rattle.geometry.specs.declared.face.QuadIndices.{QuadIndices}
use Rattle.geometry.specs.Corners.{QuadCorners, corners}
use Rattle.geometry.specs.Lists.{Each}
use Rattle.listing.specs.Listing.{joined}
use Rattle.obj.specs.declared.mesh.Quad.{Quad}
use Rattle.obj.specs.Text.{bytes, corner_line, triangle_line, first_triangle, second_triangle, indices_at, corner_lines, triangle_lines, bytes_of}
use Rattle.obj.specs.Writer.{on}
use Rattle.obj.proofs.Quads.{faces_refer}

-- ---- corners

-- The lines of the corners after the third, the second and the first.
abbrev pub fourth : QuadCorners → List ℕ
fourth c = bytes (corner_line c.maxu_maxv)

abbrev pub from_third : QuadCorners → List ℕ
from_third c = bytes (corner_line c.minu_maxv) ++ fourth c

abbrev pub from_second : QuadCorners → List ℕ
from_second c = bytes (corner_line c.maxu_minv) ++ from_third c

abbrev pub four_lines : QuadCorners → List ℕ
four_lines c = bytes (corner_line c.minu_minv) ++ from_second c

-- They are the quad's.
pub corners_lines : (q : Quad) {c : QuadCorners} → c ≡ corners q.face q.quad → bytes_of (corner_lines (on q.face q.quad)) ≡ four_lines c
unfolding joined
corners_lines q is = rw (is, append-nil)

-- ---- triangles

abbrev pub two_lines : QuadIndices → List ℕ
two_lines i = bytes (triangle_line (first_triangle i)) ++ bytes (triangle_line (second_triangle i))

pub triangles_lines : (q : Quad) {i : QuadIndices} → i ≡ indices_at q.number (on q.face q.quad) → bytes_of (triangle_lines q.number (on q.face q.quad)) ≡ two_lines i
unfolding joined
triangles_lines q is = rw (is, append-nil)

-- A vertex number and one more fit 32 bits.
abbrev pub Small : ℕ → Type 0
Small n = n < 4_294_967_295

-- All six of a quad's do.
pub small_indices : (q : Quad) {i : QuadIndices} → i ≡ indices_at q.number (on q.face q.quad)
    → (Small i.0.0 × Small i.1.0 × Small i.2.0) × (Small i.3.0 × Small i.4.0 × Small i.5.0)
unfolding Each
small_indices q is =
    let few = q.few in
    let refer = faces_refer q.number (on q.face q.quad) in
    let first = refer.0 in
    let second = refer.1.0 in
    rw is ((omega (arith, first.0.1), omega (arith, first.1.0.1), omega (arith, first.1.1.0.1)), (omega (arith, second.0.1), omega (arith, second.1.0.1), omega (arith, second.1.1.0.1)))
