-- How long a file is: seven counts, section 0's records, and the quads; of a mesh that can be saved, and of one that is handed in and passes. And each of its numbers is a byte.
use mathlib.Core.List.{List, [], ◌∷◌, map}
use mathlib.Core.Path.{◌≡◌, refl, ◌∙◌, ap}
use Prim.Native.Nat.{ℕ, zero, suc, ◌+◌, ◌*◌, ◌≤◌}
use native.Mathlib.Nat.{zero-mul, add-mul}
use native.Mathlib.Omega.{arith}
use lib.ListN.{length, take, drop, length-append, length-drop, length-map}
use lib.Seq.{length-take-le}
use Rattle.geometry.specs.declared.face.OrientedBlockFace.{OrientedBlockFace}
use Rattle.geometry.specs.Lists.{Each}
use Rattle.listing.specs.Listing.{joined, capacity}
use Rattle.listing.specs.Cut
use Rattle.listing.specs.Cut.{items_in}
use Rattle.geometry.proofs.Lists.{each_append, each_up}
use Rattle.writing.specs.Handed.{total}
use Rattle.writing.proofs.Rest.{group_held}
use Rattle.saved.specs.Bytes.{Bytes, written32, written_all}
use Rattle.saved.specs.Form.{Form, Mesh, quad_size, head_count, face_byte}
use Rattle.saved.specs.Layout.{section_bytes, head_records, quad_bytes, group_bytes, bytes}
use Rattle.saved.specs.Saved.{handed_mesh, file_of}
use Rattle.saved.specs.Statements.{Countable, Ok}
use Rattle.saved.proofs.Numbers.{written_length, written_bytes}
use Rattle.saved.proofs.Items.{one_more}
use Rattle.saved.proofs.FaceBytes.{face_byte_small}
use Rattle.saved.proofs.Groups.{quads_length, sized_long}
use Rattle.saved.proofs.Writing.{items_count}

-- Each quad of each group has so many numbers.
abbrev pub QuadsLong : ℕ → List (List (List ℕ)) → Type 0
QuadsLong numbers gs = Each (λ (g : List (List ℕ)). Each (λ (q : List ℕ). length q ≡ numbers) g) gs

-- ---- of any mesh whose quads have the form's numbers

module _ (form : Form) where
  groups_size : (gs : List (List (List ℕ))) → QuadsLong form.numbers gs → length (written_all group_bytes gs) ≡ 4 * length gs + length (joined gs) * quad_size form.numbers
  unfolding joined Each group_bytes
  groups_size [] long = rw zero-mul
  groups_size (g ∷ gs) long =
      length-append (group_bytes g) (written_all group_bytes gs)
      ∙ rw (length-append (written32 (length g)) (written_all quad_bytes g), length-append g (joined gs), add-mul (length g) (length (joined gs)) (quad_size form.numbers))
      (omega (arith, written_length 4 (length g), quads_length form.numbers g long.0, groups_size gs long.1))

  -- A file of form 1 has 34 bytes, and 20 for each quad.
  pub long_size : (m : Mesh) → length m.faces ≡ 6 → length m.groups ≡ 6 → QuadsLong form.numbers m.groups
      → length (bytes form m) ≡ 28 + head_count form + length (joined m.groups) * quad_size form.numbers
  unfolding bytes head_records head_count
  long_size m faces groups long =
      length-append (section_bytes (head_count form) (head_records form m.faces)) (written_all group_bytes m.groups)
      ∙ rw (length-append (written32 (head_count form)) (head_records form m.faces), length-append (map face_byte m.faces) form.mark, length-map m.faces face_byte, written_length 4 (head_count form))
      (omega (arith, faces, groups, groups_size m.groups long))

  -- Of a mesh that can be saved.
  pub file_size : (m : Mesh) → Ok form m → length (bytes form m) ≡ 28 + head_count form + length (joined m.groups) * quad_size form.numbers
  file_size m ok = long_size m ok.six ok.groups (each_up (Countable form.numbers) _ (λ g c. sized_long form.numbers g c.sized) m.groups ok.countable)

-- ---- of a mesh that is handed in

module _ (numbers : ℕ) where
  -- The quads that a list holds have all their numbers,
  items_long : (count : ℕ) (l : List ℕ) → count * numbers ≤ length l → Each (λ (q : List ℕ). length q ≡ numbers) (items_in numbers (take numbers) count l)
  unfolding items_in Each
  items_long zero l h = tt
  items_long (suc count) l h =
      let room : numbers + count * numbers ≤ length l = omega (arith, one_more count numbers) in
      (length-take-le numbers l (omega arith), items_long count (drop numbers l) (rw length-drop (omega arith)))

  -- in every group;
  pub groups_long : (counts l : List ℕ) → total counts * numbers ≤ length l → QuadsLong numbers (Cut.groups_in numbers (take numbers) counts l)
  unfolding Cut.groups_in Each total
  groups_long [] l h = tt
  groups_long (count ∷ counts) l h =
      let room : count * numbers + total counts * numbers ≤ length l = omega (arith, add-mul count (total counts) numbers) in
      (items_long count l (omega arith), groups_long counts (drop (count * numbers) l) (rw length-drop (omega arith)))

  -- there is a group for each count, and as many quads as the counts say.
  pub groups_each : {A : Type 0} (read : List ℕ → A) (counts l : List ℕ) → length (Cut.groups_in numbers read counts l) ≡ length counts
  unfolding Cut.groups_in
  groups_each read [] l = refl
  groups_each read (count ∷ counts) l = ap suc (groups_each read counts (drop (count * numbers) l))

  pub groups_total : {A : Type 0} (read : List ℕ → A) (counts l : List ℕ) → length (joined (Cut.groups_in numbers read counts l)) ≡ total counts
  unfolding Cut.groups_in joined total
  groups_total read [] l = refl
  groups_total read (count ∷ counts) l =
      length-append (items_in numbers read count l) (joined (Cut.groups_in numbers read counts (drop (count * numbers) l)))
      ∙ omega (arith, items_count numbers read count l, groups_total read counts (drop (count * numbers) l))

  -- So the file of one that passes has 34 bytes, those of the mark, and those of its quads.
  pub handed_size : (mark : List ℕ) (faces : List OrientedBlockFace) (counts list : List ℕ) → length faces ≡ 6 → length counts ≡ 6 → total counts ≤ capacity numbers (length list)
      → length (file_of (record { numbers = numbers; mark = mark }) faces counts list) ≡ 34 + length mark + total counts * quad_size numbers
  unfolding handed_mesh head_count
  handed_size mark faces counts list f c held =
      let form : Form = record { numbers = numbers; mark = mark } in
      let groups : List (List (List ℕ)) = Cut.groups_in numbers (take numbers) counts list in
      let quads : length (joined groups) ≡ total counts = groups_total (take numbers) counts list in
      long_size form (handed_mesh form faces counts list) f (groups_each (take numbers) counts list ∙ c) (groups_long counts list (group_held numbers (length list) (total counts) held))
      ∙ rw quads (omega arith)

-- ---- its numbers are bytes

module _ (form : Form) where
  -- Items that are written in bytes are all written in bytes.
  all_bytes : {A : Type 0} (write : A → List ℕ) → ((a : A) → Bytes (write a)) → (l : List A) → Bytes (written_all write l)
  unfolding joined Each
  all_bytes write h [] = tt
  all_bytes write h (a ∷ l) = each_append _ (write a) (written_all write l) (h a) (all_bytes write h l)

  face_bytes_are : (fs : List OrientedBlockFace) → Bytes (map face_byte fs)
  unfolding Each
  face_bytes_are [] = tt
  face_bytes_are (f ∷ fs) = (face_byte_small f, face_bytes_are fs)

  group_bytes_are : (g : List (List ℕ)) → Bytes (group_bytes g)
  unfolding group_bytes
  group_bytes_are g = each_append _ (written32 (length g)) (written_all quad_bytes g) (written_bytes 4 (length g)) (all_bytes quad_bytes (all_bytes written32 (written_bytes 4)) g)

  -- Where the form's mark is bytes, so is the file of any mesh.
  pub file_bytes : Bytes form.mark → (m : Mesh) → Bytes (bytes form m)
  unfolding bytes head_records
  file_bytes h m =
      each_append _ (section_bytes (head_count form) (head_records form m.faces)) (written_all group_bytes m.groups)
      (each_append _ (written32 (head_count form)) (head_records form m.faces) (written_bytes 4 (head_count form))
      (each_append _ (map face_byte m.faces) form.mark (face_bytes_are m.faces) h))
      (all_bytes group_bytes group_bytes_are m.groups)
