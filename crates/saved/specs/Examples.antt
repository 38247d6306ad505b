-- Worked examples: document 02's second request, worked out in bytes apart from these rules. Each is a whole call, and each side of each row is computed (proofs/Examples.antt, `reads_hold`, `writes_hold` and `places_hold`). Bytes are
-- written in decimal: 8, 10 and 9 are the codes 08, 0A and 09. 13 takes a list of more than five thousand million numbers and is no row.
use Rattle.std.specs.Prelude.{List, [], ◌∷◌, ◌++◌, ◌≡◌, ℕ, ℤ, take, replicate, set}
use Rattle.geometry.specs.declared.axis.AxisPermutation.{AxisPermutation}
use Rattle.geometry.specs.declared.axis.AxisPermutation.TheVariants.{Zyx, Xzy, Yxz}
use Rattle.geometry.specs.declared.face.OrientedBlockFace.{OrientedBlockFace}
use Rattle.geometry.specs.Axes.{one, minus_one}
use Rattle.rules.specs.Table.{six_faces}
use Rattle.writing.specs.Written.{WriteOutcome, outcome, refused_answer, accepted_answer}
use Rattle.writing.specs.Examples.{counts, unsigned}
use Rattle.saved.specs.Form.{first_form}
use Rattle.saved.specs.Saved.{no_faces, ReadOutcome, read_saved, write_saved}
use Rattle.saved.specs.Where.{refusal_byte}

-- ---- meshes

-- So many numbers or bytes of what was there before.
abbrev pub nines : ℕ → List ℕ
nines n = replicate n 9

-- The quad (1,1,1,1,1),
abbrev pub unit : List ℕ
unit = 1 ∷ 1 ∷ 1 ∷ 1 ∷ 1 ∷ []

-- one like it, but of width 0,
abbrev pub flat : List ℕ
flat = 1 ∷ 1 ∷ 1 ∷ 0 ∷ 1 ∷ []

-- and one as wide as the largest axis.
abbrev pub wide : List ℕ
wide = 255 ∷ 0 ∷ 9 ∷ 256 ∷ 1 ∷ []

-- The face of a sign and a permutation.
abbrev pub turned : ℤ → AxisPermutation → OrientedBlockFace
turned s p = record { n_sign = s; permutation = p }

-- The six that are not canonical: with the canonical ones these are all twelve.
abbrev pub other_faces : List OrientedBlockFace
other_faces = turned minus_one Zyx ∷ turned one Xzy ∷ turned minus_one Yxz ∷ turned one Zyx ∷ turned minus_one Xzy ∷ turned one Yxz ∷ []

-- ---- files

-- Section 0 of the canonical faces.
abbrev pub head : List ℕ
head = 6 ∷ 0 ∷ 0 ∷ 0 ∷ 0 ∷ 8 ∷ 2 ∷ 10 ∷ 1 ∷ 9 ∷ []

-- A number below 256 in four bytes.
abbrev pub low : ℕ → List ℕ
low n = n ∷ 0 ∷ 0 ∷ 0 ∷ []

-- So many bytes of sections without quads, four each.
abbrev pub none : ℕ → List ℕ
none n = replicate n 0

-- A section with one quad (1,1,1,w,1).
abbrev pub single : ℕ → List ℕ
single w = low 1 ++ low 1 ++ low 1 ++ low 1 ++ low w ++ low 1

-- No quads: 34 bytes.
unfoldable pub empty : List ℕ
empty = head ++ none 24

-- One quad of width w on +X: 54 bytes.
unfoldable pub on_pos_x : ℕ → List ℕ
on_pos_x w = head ++ single w ++ none 20

-- Document 01's E1, a quad on each face: 154 bytes.
unfoldable pub six : List ℕ
six = head ++ single 1 ++ single 1 ++ single 1 ++ single 1 ++ single 1 ++ single 1

-- Four quads, in sections 1 to 4, the last of width w: 114 bytes.
unfoldable pub four : ℕ → List ℕ
four w = head ++ single 1 ++ single 1 ++ single 1 ++ single w ++ none 8

-- The wide quad on +X: its width is 0, 1, 0, 0, "low byte first".
unfoldable pub widely : List ℕ
widely = head ++ low 1 ++ low 255 ++ low 0 ++ low 9 ++ (0 ∷ 1 ∷ 0 ∷ 0 ∷ []) ++ low 1 ++ none 20

-- The quad (200,0,0,1,100) in a section, with so many bytes of empty ones before it and after it.
unfoldable pub high : ℕ → ℕ → List ℕ
high before after = head ++ none before ++ low 1 ++ low 200 ++ low 0 ++ low 0 ++ low 1 ++ low 100 ++ none after

-- The other faces, and no quads.
unfoldable pub otherwise : List ℕ
otherwise = low 6 ++ (11 ∷ 4 ∷ 13 ∷ 3 ∷ 12 ∷ 5 ∷ []) ++ none 24

-- ---- outcomes

-- A reader that is refused gives no counts and no faces, and leaves its output as it was.
abbrev pub refuses : ℕ → ℕ → List ℕ → ReadOutcome
refuses number place out = record { answer = record { mesh = record { refusal = number; place = place; counts = counts 0 0 0 0 0 0 }; faces = no_faces }; out = out }

-- One that is not gives counts and faces, and leaves quads in its output.
abbrev pub gives : List OrientedBlockFace → List ℕ → List ℕ → ReadOutcome
gives faces counts out = record { answer = record { mesh = record { refusal = 0; place = 0; counts = counts }; faces = faces }; out = out }

-- A writer that is refused, and one that writes so many bytes.
abbrev pub turns_down : ℕ → ℕ → List ℕ → WriteOutcome
turns_down number place out = outcome (refused_answer number place) out

abbrev pub writes : ℕ → List ℕ → WriteOutcome
writes bytes out = outcome (accepted_answer bytes) out

-- ---- calls of the reader

pub record Reading : Type 0 where
  pub bytes : List ℕ
  pub out : List ℕ
  pub leaves : ReadOutcome

abbrev pub Reads : Reading → Type 0
Reads r = read_saved r.bytes r.out ≡ r.leaves

unfoldable pub readings : List Reading
readings =
    -- No quads, into no output and into some.
    record { bytes = empty; out = []; leaves = gives six_faces (counts 0 0 0 0 0 0) [] } ∷
    record { bytes = empty; out = nines 2; leaves = gives six_faces (counts 0 0 0 0 0 0) (nines 2) } ∷
    -- The other faces: 8 for a sign of -1, and the permutation's number.
    record { bytes = otherwise; out = []; leaves = gives other_faces (counts 0 0 0 0 0 0) [] } ∷
    -- One quad, which just fits; what is past it stays; and with room for none 9 is given and nothing is written.
    record { bytes = on_pos_x 1; out = nines 5; leaves = gives six_faces (counts 1 0 0 0 0 0) unit } ∷
    record { bytes = on_pos_x 1; out = nines 7; leaves = gives six_faces (counts 1 0 0 0 0 0) (unit ++ nines 2) } ∷
    record { bytes = on_pos_x 1; out = nines 4; leaves = refuses 9 0 (nines 4) } ∷
    record { bytes = on_pos_x 1; out = []; leaves = refuses 9 0 [] } ∷
    -- A width of two bytes.
    record { bytes = widely; out = nines 5; leaves = gives six_faces (counts 1 0 0 0 0 0) wide } ∷
    -- E1, and the same with room for five: not one is written.
    record { bytes = six; out = nines 31; leaves = gives six_faces (counts 1 1 1 1 1 1) (replicate 30 1 ++ nines 1) } ∷
    record { bytes = six; out = nines 29; leaves = refuses 9 5 (nines 29) } ∷
    -- 16: the bytes end early, in a count or in the records;
    record { bytes = []; out = nines 5; leaves = refuses 16 0 (nines 5) } ∷
    record { bytes = take 3 empty; out = nines 5; leaves = refuses 16 0 (nines 5) } ∷
    record { bytes = take 9 empty; out = nines 5; leaves = refuses 16 0 (nines 5) } ∷
    record { bytes = take 10 empty; out = nines 5; leaves = refuses 16 1 (nines 5) } ∷
    record { bytes = take 13 empty; out = nines 5; leaves = refuses 16 1 (nines 5) } ∷
    record { bytes = take 33 (on_pos_x 1); out = nines 5; leaves = refuses 16 1 (nines 5) } ∷
    record { bytes = take 34 (on_pos_x 1); out = nines 5; leaves = refuses 16 2 (nines 5) } ∷
    record { bytes = take 33 empty; out = nines 5; leaves = refuses 16 6 (nines 5) } ∷
    record { bytes = take 153 six; out = nines 30; leaves = refuses 16 6 (nines 30) } ∷
    -- bytes follow section 6;
    record { bytes = empty ++ none 1; out = nines 5; leaves = refuses 16 7 (nines 5) } ∷
    record { bytes = six ++ none 4; out = nines 30; leaves = refuses 16 7 (nines 30) } ∷
    -- section 0's count isn't 6, in its first byte or in its last;
    record { bytes = set empty 0 7; out = []; leaves = refuses 16 0 [] } ∷
    record { bytes = set empty 0 5; out = []; leaves = refuses 16 0 [] } ∷
    record { bytes = set empty 3 1; out = []; leaves = refuses 16 0 [] } ∷
    -- a count of 2 ^ 30, whose records' bytes are a multiple of 2 ^ 32, and one of 2 ^ 32 - 1.
    record { bytes = set empty 13 64; out = []; leaves = refuses 16 1 [] } ∷
    record { bytes = head ++ replicate 4 255 ++ none 20; out = []; leaves = refuses 16 1 [] } ∷
    record { bytes = head ++ none 20 ++ replicate 4 255; out = []; leaves = refuses 16 6 [] } ∷
    -- 17: 6, 7, 14 (0E) and 16 (10 hex) are outside the code, and so is 255; the first is given.
    record { bytes = set empty 7 6; out = []; leaves = refuses 17 3 [] } ∷
    record { bytes = set empty 4 7; out = []; leaves = refuses 17 0 [] } ∷
    record { bytes = set empty 9 14; out = []; leaves = refuses 17 5 [] } ∷
    record { bytes = set empty 9 16; out = []; leaves = refuses 17 5 [] } ∷
    record { bytes = set (set empty 9 16) 6 255; out = []; leaves = refuses 17 2 [] } ∷
    -- 12: a quad's number runs over the whole file.
    record { bytes = on_pos_x 0; out = nines 5; leaves = refuses 12 0 (nines 5) } ∷
    record { bytes = four 0; out = nines 20; leaves = refuses 12 3 (nines 20) } ∷
    -- (1,257,1,1,1) lies outside, and so does the end of (1,1,1,1,256).
    record { bytes = set (four 1) 19 1; out = nines 20; leaves = refuses 12 0 (nines 20) } ∷
    record { bytes = set (set (on_pos_x 1) 30 0) 31 1; out = nines 5; leaves = refuses 12 0 (nines 5) } ∷
    -- 12 goes by the u and v of the section's own face: (200,0,0,1,100) is within the limits on +X, whose v is Z, and not on +Y, whose v is X.
    record { bytes = high 0 20; out = nines 5; leaves = gives six_faces (counts 1 0 0 0 0 0) (200 ∷ 0 ∷ 0 ∷ 1 ∷ 100 ∷ []) } ∷
    record { bytes = high 8 12; out = nines 5; leaves = refuses 12 0 (nines 5) } ∷
    -- The order. A face byte and a quad that are bad, a byte too many and no output: 16 is given,
    record { bytes = set (on_pos_x 0) 7 6 ++ none 1; out = []; leaves = refuses 16 7 [] } ∷
    -- and so with a byte too few;
    record { bytes = take 53 (set (on_pos_x 0) 7 6); out = []; leaves = refuses 16 6 [] } ∷
    -- with that mended 17,
    record { bytes = set (on_pos_x 0) 7 6; out = []; leaves = refuses 17 3 [] } ∷
    -- then 12,
    record { bytes = on_pos_x 0; out = []; leaves = refuses 12 0 [] } ∷
    -- and at last 9, of a file that is good.
    record { bytes = four 1; out = nines 19; leaves = refuses 9 3 (nines 19) } ∷
    record { bytes = four 1; out = nines 20; leaves = gives six_faces (counts 1 1 1 1 0 0) (replicate 20 1) } ∷
    []

-- ---- calls of the writer

pub record Writing : Type 0 where
  pub faces : List OrientedBlockFace
  pub counts : List ℕ
  pub list : List ℕ
  pub out : List ℕ
  pub leaves : WriteOutcome

abbrev pub Writes : Writing → Type 0
Writes w = write_saved w.faces w.counts w.list w.out ≡ w.leaves

unfoldable pub writings : List Writing
writings =
    -- No quads, whatever stands in the list: 34 bytes, which just fit; one byte fewer; and of two more both stay.
    record { faces = six_faces; counts = counts 0 0 0 0 0 0; list = flat; out = nines 34; leaves = writes 34 empty } ∷
    record { faces = six_faces; counts = counts 0 0 0 0 0 0; list = []; out = nines 33; leaves = turns_down 15 0 (nines 33) } ∷
    record { faces = six_faces; counts = counts 0 0 0 0 0 0; list = []; out = nines 36; leaves = writes 34 (empty ++ nines 2) } ∷
    -- The other faces.
    record { faces = other_faces; counts = counts 0 0 0 0 0 0; list = []; out = nines 34; leaves = writes 34 otherwise } ∷
    -- One quad on +X: 54 bytes, and 53 are too few.
    record { faces = six_faces; counts = counts 1 0 0 0 0 0; list = unit; out = nines 54; leaves = writes 54 (on_pos_x 1) } ∷
    record { faces = six_faces; counts = counts 1 0 0 0 0 0; list = unit; out = nines 53; leaves = turns_down 15 0 (nines 53) } ∷
    -- What a reader left of it behind the quads is not written.
    record { faces = six_faces; counts = counts 1 0 0 0 0 0; list = unit ++ nines 2; out = nines 55; leaves = writes 54 (on_pos_x 1 ++ nines 1) } ∷
    -- A width of two bytes.
    record { faces = six_faces; counts = counts 1 0 0 0 0 0; list = wide; out = nines 54; leaves = writes 54 widely } ∷
    -- E1: 154 bytes.
    record { faces = six_faces; counts = counts 1 1 1 1 1 1; list = replicate 30 1; out = nines 154; leaves = writes 154 six } ∷
    -- Nine numbers hold one quad, and not two.
    record { faces = six_faces; counts = counts 2 0 0 0 0 0; list = unit ++ (1 ∷ 1 ∷ 1 ∷ 1 ∷ []); out = nines 74; leaves = turns_down 24 0 (nines 74) } ∷
    -- Counts are summed as numbers: 2 ^ 64 - 1 and 1 are not 0.
    record { faces = six_faces; counts = counts 18_446_744_073_709_551_615 1 0 0 0 0; list = []; out = nines 34; leaves = turns_down 24 0 (nines 34) } ∷
    -- A list too short, the last face's sign 0, a quad of width 0 and no output: 24 is given,
    record { faces = unsigned 5 six_faces; counts = counts 1 0 0 0 0 0; list = 1 ∷ 1 ∷ 1 ∷ 0 ∷ []; out = []; leaves = turns_down 24 0 [] } ∷
    -- with that mended 6, though the last face's group is empty,
    record { faces = unsigned 5 six_faces; counts = counts 1 0 0 0 0 0; list = flat; out = []; leaves = turns_down 6 5 [] } ∷
    -- then 12,
    record { faces = six_faces; counts = counts 1 0 0 0 0 0; list = flat; out = []; leaves = turns_down 12 0 [] } ∷
    -- and then 15.
    record { faces = six_faces; counts = counts 1 0 0 0 0 0; list = unit; out = []; leaves = turns_down 15 0 [] } ∷
    -- A quad's number runs on through the groups.
    record { faces = six_faces; counts = counts 1 0 0 1 0 0; list = unit ++ flat; out = nines 74; leaves = turns_down 12 1 (nines 74) } ∷
    []

-- ---- where a refusal stands

-- A file, a refusal of its reader and its place, and the number of the byte where it stands.
pub record Standing : Type 0 where
  pub bytes : List ℕ
  pub refusal : ℕ
  pub place : ℕ
  pub byte : ℕ

abbrev pub Stands : Standing → Type 0
Stands s = refusal_byte first_form s.refusal s.place s.bytes ≡ s.byte

unfoldable pub standings : List Standing
standings =
    -- 16: where the section's count begins, though it is cut,
    record { bytes = []; refusal = 16; place = 0; byte = 0 } ∷
    record { bytes = set empty 0 7; refusal = 16; place = 0; byte = 0 } ∷
    record { bytes = take 13 empty; refusal = 16; place = 1; byte = 10 } ∷
    record { bytes = take 33 empty; refusal = 16; place = 6; byte = 30 } ∷
    record { bytes = take 153 six; refusal = 16; place = 6; byte = 130 } ∷
    -- also of a section that claims too much;
    record { bytes = set empty 13 64; refusal = 16; place = 1; byte = 10 } ∷
    -- and the first byte after section 6.
    record { bytes = empty ++ none 1; refusal = 16; place = 7; byte = 34 } ∷
    record { bytes = on_pos_x 1 ++ none 3; refusal = 16; place = 7; byte = 54 } ∷
    -- 17: the face byte.
    record { bytes = set empty 7 6; refusal = 17; place = 3; byte = 7 } ∷
    record { bytes = set empty 9 16; refusal = 17; place = 5; byte = 9 } ∷
    -- 12: the quad's first byte, in the first section and in the fourth.
    record { bytes = on_pos_x 0; refusal = 12; place = 0; byte = 14 } ∷
    record { bytes = four 0; refusal = 12; place = 3; byte = 86 } ∷
    -- 9 stands nowhere in the file, and what no reader answers at its end at most.
    record { bytes = four 1; refusal = 9; place = 3; byte = 0 } ∷
    record { bytes = empty; refusal = 16; place = 99; byte = 34 } ∷
    record { bytes = empty; refusal = 17; place = 99; byte = 34 } ∷
    record { bytes = on_pos_x 1; refusal = 12; place = 1; byte = 54 } ∷
    []
