-- What is left of a file that is written: one number less of a list, one group less of a mesh. And the bytes of a group's quads are those of its numbers, one after another.
use mathlib.Core.List.{List, [], ◌∷◌, ◌++◌, map, append_assoc}
use mathlib.Core.Path.{◌≡◌, refl, sym, ◌∙◌, ap}
use Prim.Native.Nat.{ℕ, zero, suc, ◌+◌, ◌*◌, ◌≤◌, ◌<◌}
use native.Mathlib.Nat.{zero-mul, add-mul}
use native.Mathlib.Omega.{arith}
use lib.ListN.{length, get_or, take, drop, length-append, length-drop, length-map, drop_of_length-le}
use lib.Seq.{take-add, drop-drop, length-take-le}
use Rattle.geometry.specs.declared.face.OrientedBlockFace.{OrientedBlockFace}
use Rattle.voxels.proofs.Asked.{drop_next}
use Rattle.listing.specs.Listing.{joined, capacity}
use Rattle.listing.specs.Cut
use Rattle.listing.specs.Cut.{items_in}
use Rattle.writing.specs.Handed.{most_quads}
use Rattle.writing.specs.Statements.{Passes}
use Rattle.writing.proofs.Rest.{Walking, walking_most, group_held}
use Rattle.saved.specs.Bytes.{written32, written_all}
use Rattle.saved.specs.Form.{head_count, face_byte}
use Rattle.saved.specs.Layout.{head_records, quad_bytes, group_bytes, bytes}
use Rattle.saved.specs.Saved.{handed_mesh, file_of}
use Rattle.saved.specs.Private.{head_bytes, group_at}
use Rattle.saved.proofs.Numbers.{written_length}
use Rattle.saved.proofs.Items.{one_more}

-- Of items that are written one after another: one, and those that are left.
pub items_next : {A : Type 0} (write : A → List ℕ) (l : List A) (k : ℕ) (d : A) → k < length l → written_all write (drop k l) ≡ write (get_or l k d) ++ written_all write (drop (k + 1) l)
unfolding joined
items_next write l k d h = rw (drop_next l k d h)

pub items_none : {A : Type 0} (write : A → List ℕ) (l : List A) (k : ℕ) → length l ≤ k → written_all write (drop k l) ≡ []
unfolding joined
items_none write l k h = rw (drop_of_length-le l h)

-- Numbers have four bytes each.
pub numbers_long : (l : List ℕ) → length (written_all written32 l) ≡ length l * 4
unfolding joined
numbers_long [] = refl
numbers_long (n ∷ l) = length-append (written32 n) (written_all written32 l) ∙ omega (arith, written_length 4 n, numbers_long l)

-- ---- the quads of a group

-- Items written in two lots.
all_append : {A : Type 0} (write : A → List ℕ) (l m : List A) → written_all write (l ++ m) ≡ written_all write l ++ written_all write m
unfolding joined
all_append write [] m = refl
all_append write (a ∷ l) m = rw (all_append write l m) (sym (append_assoc (write a) (written_all write l) (written_all write m)))

-- There are as many items as were asked for.
pub items_count : {A : Type 0} (numbers : ℕ) (read : List ℕ → A) (count : ℕ) (l : List ℕ) → length (items_in numbers read count l) ≡ count
unfolding items_in
items_count numbers read zero l = refl
items_count numbers read (suc count) l = ap suc (items_count numbers read count (drop numbers l))

-- The bytes of quads are those of their numbers.
quads_flat : (numbers count : ℕ) (l : List ℕ) → written_all quad_bytes (items_in numbers (take numbers) count l) ≡ written_all written32 (take (count * numbers) l)
unfolding items_in joined
quads_flat numbers zero l = rw zero-mul
quads_flat numbers (suc count) l =
    rw (one_more count numbers, take-add numbers (count * numbers) l, all_append written32 (take numbers l) (take (count * numbers) (drop numbers l)), quads_flat numbers count (drop numbers l))

-- It is its count, and then the numbers of its quads.
pub group_flat : (numbers : ℕ) (list : List ℕ) (first count : ℕ) → group_at numbers list first count ≡ written32 count ++ written_all written32 (take (count * numbers) (drop (first * numbers) list))
unfolding group_bytes
group_flat numbers list first count = rw (items_count numbers (take numbers) count (drop (first * numbers) list), quads_flat numbers count (drop (first * numbers) list))

module _ (numbers : ℕ) (list : List ℕ) (first count : ℕ) where
  -- The numbers of its quads are the list's,
  pub held_numbers : first + count ≤ capacity numbers (length list) → first * numbers + count * numbers ≤ length list
  held_numbers h = omega (arith, group_held numbers (length list) (first + count) h, add-mul first count numbers)

  -- and so long it is.
  pub group_long : first * numbers + count * numbers ≤ length list → length (group_at numbers list first count) ≡ 4 + count * numbers * 4
  group_long h =
      ap length (group_flat numbers list first count) ∙ length-append (written32 count) _
      ∙ omega (arith, written_length 4 count, numbers_long (take (count * numbers) (drop (first * numbers) list)), length-take-le (count * numbers) (drop (first * numbers) list) (rw length-drop (omega arith)))

-- ---- the groups of a mesh

-- Where a loop over the groups stands that looks at no face: wherever one over any six faces does.
abbrev pub Walked : List ℕ → ℕ → ℕ → Type 0
Walked counts first k = (faces : List OrientedBlockFace) → length faces ≡ 6 → Walking faces counts first k

module _ (numbers : ℕ) (list counts : List ℕ) where
  -- What is written of the groups that are left, where k of them are done, with so many quads: the group at hand and what is left after it,
  abbrev pub groups_left : ℕ → ℕ → List ℕ
  groups_left first k = written_all group_bytes (Cut.groups_in numbers (take numbers) (drop k counts) (drop (first * numbers) list))

  pub groups_next : (first k : ℕ) → k < length counts → groups_left first k ≡ group_at numbers list first (get_or counts k 0) ++ groups_left (first + get_or counts k 0) (k + 1)
  unfolding joined Cut.groups_in
  groups_next first k h =
      let n : ℕ = get_or counts k 0 in
      let after : first * numbers + n * numbers ≡ (first + n) * numbers = omega (arith, add-mul first n numbers) in
      rw (drop_next counts k 0 h, drop-drop (n * numbers) (first * numbers) list, after)

  -- and nothing at the end.
  pub groups_done : (first k : ℕ) → length counts ≤ k → groups_left first k ≡ []
  unfolding joined Cut.groups_in
  groups_done first k h = rw (drop_of_length-le counts h)

  -- At the start they are the file after section 0.
  pub file_start : (mark : List ℕ) (faces : List OrientedBlockFace) → file_of (record { numbers = numbers; mark = mark }) faces counts list ≡ head_bytes mark faces ++ groups_left 0 0
  unfolding bytes handed_mesh head_records head_count
  file_start mark faces = let none : 0 * numbers ≡ 0 = zero-mul numbers in rw none

-- Section 0 has its count, the face bytes and the mark.
pub head_long : (mark : List ℕ) (faces : List OrientedBlockFace) → length faces ≡ 6 → length (head_bytes mark faces) ≡ 10 + length mark
head_long mark faces six =
    length-append (written32 (6 + length mark)) (map face_byte faces ++ mark)
    ∙ omega (arith, six, written_length 4 (6 + length mark), length-append (map face_byte faces) mark, length-map faces face_byte)

-- Of a mesh that passes the quads of the groups so far and of the one at hand are the list's, and few.
module _ {numbers : ℕ} {faces : List OrientedBlockFace} {counts list : List ℕ} (p : Passes numbers faces counts list) {first k : ℕ} (w : Walking faces counts first k) (h : k < 6) where
  pub groups_held : first + get_or counts k 0 ≤ capacity numbers (length list)
  groups_held = omega (arith, walking_most w h, p.held)

  pub groups_few : first + get_or counts k 0 ≤ most_quads
  groups_few = omega (arith, walking_most w h, p.few)

  pub group_few : get_or counts k 0 ≤ most_quads
  group_few = omega (arith, groups_few)
