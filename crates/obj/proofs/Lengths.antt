-- How long a text is: at most 68 bytes a quad's corners and 70 its triangles, so 138 bytes a quad, after the first line's 7.
use mathlib.Core.List.{List, [], ◌∷◌}
use mathlib.Core.Path.{◌≡◌}
use Prim.Native.Nat.{ℕ, ◌+◌, ◌*◌, ◌≤◌, ◌<◌}
use native.Mathlib.Omega.{arith}
use lib.ListN.{length, length-append}
use Rattle.geometry.specs.declared.axis.Axis.TheVariants.{X, Y, Z}
use Rattle.geometry.specs.declared.face.OrientedBlockFace.{OrientedBlockFace}
use Rattle.geometry.specs.declared.face.Corner.{Corner}
use Rattle.geometry.specs.declared.face.Corner.TheVariants.{MinuMinv, MaxuMaxv}
use Rattle.geometry.specs.Point.{Point, along}
use Rattle.geometry.specs.Quad.{largest_axis}
use Rattle.geometry.specs.Corners.{corner}
use Rattle.geometry.specs.Inner.{AtMost}
use Rattle.geometry.specs.Lists.{Each}
use Rattle.geometry.proofs.Limits.{limits_bounds}
use Rattle.geometry.proofs.Corners.{corner_at_most}
use Rattle.digits.specs.Decimal.{digits}
use Rattle.digits.proofs.Digits.{digits_at_most}
use Rattle.greedy.specs.Greedy.{quad_numbers}
use Rattle.writing.specs.Handed.{OrientedQuad, numbered, handed, total, most_quads}
use Rattle.writing.specs.Statements.{WithinQuad, ListedPasses}
use Rattle.writing.proofs.Rest.{handed_count}
use Rattle.writing.proofs.Ordered.{order_passed}
use Rattle.obj.specs.Text.{corner_lines, triangle_lines, bytes_of, quad_text, text}
use Rattle.obj.specs.Obj.{obj_text}
use Rattle.obj.specs.Writer.{point_places}
use Rattle.obj.specs.Statements.{most_bytes}
use Rattle.obj.proofs.Measured.{corners_long, triangles_long_lem, quad_long}

-- ---- a quad

-- A number below 10,000 has at most four digits, and so has each coordinate of a point that is not past the largest axis.
places_at_most : (p : Point) → AtMost largest_axis p → point_places p ≤ 12
unfolding along
places_at_most p most =
    let few : (n : ℕ) → n ≤ largest_axis → length (digits n) ≤ 4 = λ n h. digits_at_most 3 n (omega arith) in
    omega (arith, few p.x (most X), few p.y (most Y), few p.z (most Z))

corners_at_most : (q : OrientedQuad) → WithinQuad q → length (bytes_of (corner_lines q)) ≤ 68
corners_at_most q within =
    let few : (c : Corner) → point_places (corner q.face q.quad c) ≤ 12 = λ c. places_at_most _ (corner_at_most q.face q.quad (limits_bounds q.face q.quad within) c) in
    omega (arith, corners_long q.face q.quad, few MinuMinv, few MaxuMaxv)

-- A vertex number of a quad that is not too many is below 2 ^ 32, and has at most ten digits.
triangles_at_most : (k : ℕ) (q : OrientedQuad) → k < most_quads → length (bytes_of (triangle_lines k q)) ≤ 70
triangles_at_most k q few =
    let ten : (n : ℕ) → n ≤ 4 * k + 4 → length (digits n) ≤ 10 = λ n h. digits_at_most 9 n (omega arith) in
    omega (arith, triangles_long_lem k q, ten (4 * k + 1) (omega arith), ten (4 * k + 2) (omega arith), ten (4 * k + 3) (omega arith), ten (4 * k + 4) (omega arith))

pub quad_at_most : (k : ℕ) (q : OrientedQuad) → WithinQuad q → k < most_quads → length (quad_text k q) ≤ 138
quad_at_most k q within few = omega (arith, quad_long k q, corners_at_most q within, triangles_at_most k q few)

-- ---- the text

-- The lines of quads, the first of number k.
pub quads_at_most : (k : ℕ) (qs : List OrientedQuad) → Each WithinQuad qs → k + length qs ≤ most_quads → length (numbered quad_text k qs) ≤ 138 * length qs
unfolding Each numbered
quads_at_most k [] each h = omega arith
quads_at_most k (q ∷ qs) each h =
    let (here, rest) = each in
    omega (arith, length-append (quad_text k q) (numbered quad_text (k + 1) qs), quad_at_most k q here (omega arith), quads_at_most (k + 1) qs rest (omega arith))

-- A text has at most 7 bytes, and 138 more a quad.
pub length_at_most : (qs : List OrientedQuad) → Each WithinQuad qs → length qs ≤ most_quads → length (text qs) ≤ most_bytes (length qs)
unfolding text
length_at_most qs each h = omega (arith, quads_at_most 0 qs each (omega arith))

-- So of a mesh that is handed in and passes, by the quads that its counts claim.
pub handed_at_most : (faces : List OrientedBlockFace) (counts list : List ℕ) → length faces ≡ length counts → ListedPasses faces counts list → length (obj_text faces counts list) ≤ most_bytes (total counts)
handed_at_most faces counts list paired passed =
    let p = order_passed quad_numbers faces counts list passed in
    let all : length (handed quad_numbers faces counts list) ≡ total counts = handed_count quad_numbers faces counts list paired in
    rw all at (length_at_most (handed quad_numbers faces counts list) p.quads (rw all p.few))
