-- Worked examples: document 02's own text, and others that were worked out from documents 01 and 02 apart from these rules. Each is a whole call, and each side of each row is computed (proofs/Examples.antt, `examples_hold`).
use Rattle.std.specs.Prelude.{List, [], ◌∷◌, ◌++◌, map, ◌≡◌, ℕ, ℤ, set}
use Prim.Native.Char.{code}
use Prim.Native.String.{String, [] as []ˢ, ◌∷◌ as ◌∷ˢ◌}
use Rattle.geometry.specs.declared.axis.AxisPermutation.{AxisPermutation}
use Rattle.geometry.specs.declared.axis.AxisPermutation.TheVariants.{Xyz, Xzy}
use Rattle.geometry.specs.declared.face.OrientedBlockFace.{OrientedBlockFace}
use Rattle.geometry.specs.Axes.{one, minus_one}
use Rattle.listing.specs.Listing.{joined}
use Rattle.rules.specs.Table.{six_faces}
use Rattle.digits.specs.Examples.{zs}
use Rattle.writing.specs.Written.{WriteOutcome, outcome, refused_answer, accepted_answer}
use Rattle.writing.specs.Examples.{counts, unsigned}
use Rattle.obj.specs.Obj.{write_obj}

-- ---- meshes

-- The canonical faces, with another in place of the first.
abbrev pub firstly : ℤ → AxisPermutation → List OrientedBlockFace
firstly s p = set six_faces 0 (record { n_sign = s; permutation = p })

-- One quad in the first group, and none in the others.
abbrev pub one_quad : List ℕ
one_quad = counts 1 0 0 0 0 0

-- No quads.
abbrev pub no_quads : List ℕ
no_quads = counts 0 0 0 0 0 0

-- The document's quad: minimum (1, 1, 1), width 1, height 1.
abbrev pub unit : List ℕ
unit = 1 ∷ 1 ∷ 1 ∷ 1 ∷ 1 ∷ []

-- One like it, but of width 0.
abbrev pub flat : List ℕ
flat = 1 ∷ 1 ∷ 1 ∷ 0 ∷ 1 ∷ []

-- ---- outcomes

-- A call that writes so many bytes, and what its output then holds.
abbrev pub writes : ℕ → List ℕ → WriteOutcome
writes bytes out = outcome (accepted_answer bytes) out

-- A call that is refused leaves its output as it was.
abbrev pub refuses : ℕ → ℕ → List ℕ → WriteOutcome
refuses number place out = outcome (refused_answer number place) out

-- ---- texts

-- The bytes of a line that is written out: those of its characters, all of which are ASCII, and a line feed.
unfoldable pub line : String → List ℕ
line []ˢ = 10 ∷ []
line (c ∷ˢ s) = code c ∷ line s

-- Those of lines.
abbrev pub lines : List String → List ℕ
lines ls = joined (map line ls)

-- The document's text.
abbrev pub the_documents : List String
the_documents =
    "o mesh" ∷
    "v 2 1 1" ∷ "v 2 2 1" ∷ "v 2 1 2" ∷ "v 2 2 2" ∷ "f 1 2 3" ∷ "f 2 4 3" ∷
    []

-- The same in bytes.
abbrev pub in_bytes : List ℕ
in_bytes =
    111 ∷ 32 ∷ 109 ∷ 101 ∷ 115 ∷ 104 ∷ 10 ∷
    118 ∷ 32 ∷ 50 ∷ 32 ∷ 49 ∷ 32 ∷ 49 ∷ 10 ∷
    118 ∷ 32 ∷ 50 ∷ 32 ∷ 50 ∷ 32 ∷ 49 ∷ 10 ∷
    118 ∷ 32 ∷ 50 ∷ 32 ∷ 49 ∷ 32 ∷ 50 ∷ 10 ∷
    118 ∷ 32 ∷ 50 ∷ 32 ∷ 50 ∷ 32 ∷ 50 ∷ 10 ∷
    102 ∷ 32 ∷ 49 ∷ 32 ∷ 50 ∷ 32 ∷ 51 ∷ 10 ∷
    102 ∷ 32 ∷ 50 ∷ 32 ∷ 52 ∷ 32 ∷ 51 ∷ 10 ∷
    []

-- That of the same quad on -X: no step along n, and the other winding.
abbrev pub on_minus_x : List String
on_minus_x =
    "o mesh" ∷
    "v 1 1 1" ∷ "v 1 2 1" ∷ "v 1 1 2" ∷ "v 1 2 2" ∷ "f 1 3 2" ∷ "f 2 3 4" ∷
    []

-- Of a quad on +X by the odd permutation Xzy, whose u runs along z.
abbrev pub by_xzy : List String
by_xzy =
    "o mesh" ∷
    "v 2 2 3" ∷ "v 2 2 7" ∷ "v 2 7 3" ∷ "v 2 7 7" ∷ "f 1 3 2" ∷ "f 2 3 4" ∷
    []

-- Of a quad as wide as the largest axis, at its end: numbers of one to three digits.
abbrev pub at_the_edge : List String
at_the_edge =
    "o mesh" ∷
    "v 256 0 9" ∷ "v 256 256 9" ∷ "v 256 0 10" ∷ "v 256 256 10" ∷ "f 1 2 3" ∷ "f 2 4 3" ∷
    []

-- Of a lone voxel's six quads: vertex numbers run on through the groups.
abbrev pub lone_voxel : List String
lone_voxel =
    "o mesh" ∷
    "v 2 1 1" ∷ "v 2 2 1" ∷ "v 2 1 2" ∷ "v 2 2 2" ∷ "f 1 2 3" ∷ "f 2 4 3" ∷
    "v 1 1 1" ∷ "v 1 2 1" ∷ "v 1 1 2" ∷ "v 1 2 2" ∷ "f 5 7 6" ∷ "f 6 7 8" ∷
    "v 1 2 1" ∷ "v 1 2 2" ∷ "v 2 2 1" ∷ "v 2 2 2" ∷ "f 9 10 11" ∷ "f 10 12 11" ∷
    "v 1 1 1" ∷ "v 1 1 2" ∷ "v 2 1 1" ∷ "v 2 1 2" ∷ "f 13 15 14" ∷ "f 14 15 16" ∷
    "v 1 1 2" ∷ "v 2 1 2" ∷ "v 1 2 2" ∷ "v 2 2 2" ∷ "f 17 18 19" ∷ "f 18 20 19" ∷
    "v 1 1 1" ∷ "v 2 1 1" ∷ "v 1 2 1" ∷ "v 2 2 1" ∷ "f 21 23 22" ∷ "f 22 23 24" ∷
    []

-- ---- calls

-- What a call is handed, and what it leaves.
pub record Example : Type 0 where
  pub faces : List OrientedBlockFace
  pub counts : List ℕ
  pub list : List ℕ
  pub out : List ℕ
  pub leaves : WriteOutcome

abbrev pub Holds : Example → Type 0
Holds e = write_obj e.faces e.counts e.list e.out ≡ e.leaves

unfoldable pub examples : List Example
examples =
    -- The document's: one quad on +X and five empty groups. Its 55 bytes just fit,
    record { faces = six_faces; counts = one_quad; list = unit; out = zs 55; leaves = writes 55 in_bytes } ∷
    -- into one byte fewer nothing is written,
    record { faces = six_faces; counts = one_quad; list = unit; out = zs 54; leaves = refuses 15 0 (zs 54) } ∷
    -- and of one more the last stays.
    record { faces = six_faces; counts = one_quad; list = unit; out = zs 56; leaves = writes 55 (lines the_documents ++ zs 1) } ∷
    -- The same quad on -X,
    record { faces = firstly minus_one Xyz; counts = one_quad; list = unit; out = zs 55; leaves = writes 55 (lines on_minus_x) } ∷
    -- one on +X by an odd permutation,
    record { faces = firstly one Xzy; counts = one_quad; list = 1 ∷ 2 ∷ 3 ∷ 4 ∷ 5 ∷ []; out = zs 55; leaves = writes 55 (lines by_xzy) } ∷
    -- and one that ends where the largest shape does.
    record { faces = six_faces; counts = one_quad; list = 255 ∷ 0 ∷ 9 ∷ 256 ∷ 1 ∷ []; out = zs 69; leaves = writes 69 (lines at_the_edge) } ∷
    -- A quad on each of the six faces.
    record { faces = six_faces; counts = counts 1 1 1 1 1 1; list = unit ++ unit ++ unit ++ unit ++ unit ++ unit; out = zs 318; leaves = writes 318 (lines lone_voxel) } ∷
    -- No quads are the first line alone, whatever stands in the list,
    record { faces = six_faces; counts = no_quads; list = flat ++ flat; out = zs 7; leaves = writes 7 (line "o mesh") } ∷
    -- and 6 bytes are too short for it.
    record { faces = six_faces; counts = no_quads; list = []; out = zs 6; leaves = refuses 15 0 (zs 6) } ∷
    -- Nine numbers hold one quad, and not two.
    record { faces = six_faces; counts = counts 2 0 0 0 0 0; list = unit ++ (1 ∷ 1 ∷ 1 ∷ 1 ∷ []); out = zs 200; leaves = refuses 24 0 (zs 200) } ∷
    -- Counts are summed as numbers: 2 ^ 64 - 1 and 1 are not 0.
    record { faces = six_faces; counts = counts 18_446_744_073_709_551_615 1 0 0 0 0; list = []; out = zs 7; leaves = refuses 24 0 (zs 7) } ∷
    -- A list too short, the last face's sign 0, a quad of width 0 and no output: 24 is given,
    record { faces = unsigned 5 six_faces; counts = one_quad; list = 1 ∷ 1 ∷ 1 ∷ 0 ∷ []; out = []; leaves = refuses 24 0 [] } ∷
    -- with that mended 6, though the last face's group is empty,
    record { faces = unsigned 5 six_faces; counts = one_quad; list = flat; out = []; leaves = refuses 6 5 [] } ∷
    -- then 12,
    record { faces = six_faces; counts = one_quad; list = flat; out = []; leaves = refuses 12 0 [] } ∷
    -- and then 15.
    record { faces = six_faces; counts = one_quad; list = unit; out = []; leaves = refuses 15 0 [] } ∷
    -- A quad's number runs on through the groups: the first of the second group is quad 1.
    record { faces = six_faces; counts = counts 1 1 0 0 0 0; list = unit ++ flat; out = zs 200; leaves = refuses 12 1 (zs 200) } ∷
    []
