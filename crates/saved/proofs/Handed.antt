-- Laws of a mesh that is handed in, as the mesh that is saved: its quads are those that the list's checks look at, its groups have the counts, and its numbers are the list's first. And back: the counts of a mesh cut it out of its own numbers.
use mathlib.Core.List.{List, [], ◌∷◌, ◌++◌, map, append_assoc}
use mathlib.Core.Path.{◌≡◌, refl, sym, ◌∙◌, ap}
use Prim.Native.Nat.{ℕ, zero, suc, ◌*◌, ◌≤◌}
use native.Mathlib.Nat.{zero-mul, suc-mul, add-mul}
use native.Mathlib.Omega.{arith}
use lib.ListN.{length, take, drop, length-append, length-drop}
use lib.Seq.{take_at, drop_at, take-add, length-take-le}
use Rattle.geometry.specs.declared.face.OrientedBlockFace.{OrientedBlockFace}
use Rattle.geometry.specs.Lists.{Each}
use Rattle.geometry.proofs.Lists.{each_append}
use Rattle.listing.specs.Listing.{joined}
use Rattle.listing.specs.Cut
use Rattle.greedy.specs.Call.{quad_from}
use Rattle.writing.specs.Handed.{oriented, handed, total}
use Rattle.writing.proofs.Rest.{quad_cut}
use Rattle.saved.proofs.Checking.{total_joined}
use Rattle.saved.specs.Form.{Form, Mesh}
use Rattle.saved.specs.Read.{mesh_quads}
use Rattle.saved.specs.Saved.{handed_mesh, quad_count, mesh_numbers}
use Rattle.saved.proofs.Items.{one_more}

-- ---- lists end to end

joined_both : {A : Type 0} (ls ms : List (List A)) → joined (ls ++ ms) ≡ joined ls ++ joined ms
unfolding joined
joined_both [] ms = refl
joined_both (l ∷ ls) ms = rw (joined_both ls ms) (sym (append_assoc l (joined ls) (joined ms)))

-- What holds of each of each holds of each of all.
pub each_joined : {A : Type 0} (P : A → Type 0) (ls : List (List A)) → Each (Each P) ls → Each P (joined ls)
unfolding joined Each
each_joined P [] h = tt
each_joined P (l ∷ ls) h = each_append P l (joined ls) h.0 (each_joined P ls h.1)

-- Lists of one length have so many in all.
abbrev pub Long : ℕ → List ℕ → Type 0
Long numbers q = length q ≡ numbers

pub long_joined : (numbers : ℕ) (g : List (List ℕ)) → Each (Long numbers) g → length (joined g) ≡ length g * numbers
unfolding joined Each
long_joined numbers [] h = sym (zero-mul numbers)
long_joined numbers (q ∷ g) h = omega (arith, length-append q (joined g), h.0, long_joined numbers g h.1, suc-mul (length g) numbers)

module _ (numbers : ℕ) where
  -- ---- what counts cut out of a list

  -- As many quads as the count says,
  items_length : {A : Type 0} (read : List ℕ → A) (n : ℕ) (list : List ℕ) → length (Cut.items_in numbers read n list) ≡ n
  unfolding Cut.items_in
  items_length read zero list = refl
  items_length read (suc n) list = ap suc (items_length read n (drop numbers list))

  -- and so in each group.
  pub groups_counts : {A : Type 0} (read : List ℕ → A) (counts list : List ℕ) → map length (Cut.groups_in numbers read counts list) ≡ counts
  unfolding Cut.groups_in
  groups_counts read [] list = refl
  groups_counts read (n ∷ counts) list = rw (items_length read n list, groups_counts read counts (drop (n * numbers) list))

  -- Their numbers are the list's first.
  items_numbers : (n : ℕ) (list : List ℕ) → joined (Cut.items_in numbers (take numbers) n list) ≡ take (n * numbers) list
  unfolding Cut.items_in joined
  items_numbers zero list = rw zero-mul
  items_numbers (suc n) list = rw (one_more n numbers, items_numbers n (drop numbers list)) (sym (take-add numbers (n * numbers) list))

  pub groups_numbers : (counts list : List ℕ) → joined (joined (Cut.groups_in numbers (take numbers) counts list)) ≡ take (total counts * numbers) list
  unfolding Cut.groups_in joined total
  groups_numbers [] list = rw zero-mul
  groups_numbers (n ∷ counts) list =
      joined_both (Cut.items_in numbers (take numbers) n list) (joined (Cut.groups_in numbers (take numbers) counts (drop (n * numbers) list)))
      ∙ rw (items_numbers n list, groups_numbers counts (drop (n * numbers) list), add-mul n (total counts) numbers)
      (sym (take-add (n * numbers) (total counts * numbers) list))

  -- Where the list holds them each has all its numbers.
  items_long : (n : ℕ) (list : List ℕ) → n * numbers ≤ length list → Each (Long numbers) (Cut.items_in numbers (take numbers) n list)
  unfolding Cut.items_in Each
  items_long zero list h = tt
  items_long (suc n) list h =
      (length-take-le numbers list (omega (arith, one_more n numbers)), items_long n (drop numbers list) (omega (arith, one_more n numbers, length-drop numbers list)))

  pub groups_long : (counts list : List ℕ) → total counts * numbers ≤ length list → Each (Each (Long numbers)) (Cut.groups_in numbers (take numbers) counts list)
  unfolding Cut.groups_in Each total
  groups_long [] list h = tt
  groups_long (n ∷ counts) list h = (
    items_long n list (omega (arith, add-mul n (total counts) numbers)),
    groups_long counts (drop (n * numbers) list) (omega (arith, add-mul n (total counts) numbers, length-drop (n * numbers) list)),
  )

  -- ---- what the counts of a mesh cut out of its own numbers, whatever follows

  items_back : (g : List (List ℕ)) (rest : List ℕ) → Each (Long numbers) g → Cut.items_in numbers (take numbers) (length g) (joined g ++ rest) ≡ g
  unfolding Cut.items_in joined Each
  items_back [] rest h = refl
  items_back (q ∷ g) rest h =
      rw (append_assoc q (joined g) rest, take_at q (joined g ++ rest) numbers h.0, drop_at q (joined g ++ rest) numbers h.0, items_back g rest h.1)

  pub groups_cut : (gs : List (List (List ℕ))) (rest : List ℕ) → Each (Each (Long numbers)) gs → Cut.groups_in numbers (take numbers) (map length gs) (joined (joined gs) ++ rest) ≡ gs
  unfolding Cut.groups_in joined Each
  groups_cut [] rest h = refl
  groups_cut (g ∷ gs) rest h =
      rw (
        joined_both g (joined gs),
        append_assoc (joined g) (joined (joined gs)) rest,
        items_back g (joined (joined gs) ++ rest) h.0,
        drop_at (joined g) (joined (joined gs) ++ rest) (length g * numbers) (long_joined numbers g h.0),
        groups_cut gs rest h.1,
      )

  -- ---- the quads that are looked at

  items_quads : (n : ℕ) (list : List ℕ) → 5 ≤ numbers → map quad_from (Cut.items_in numbers (take numbers) n list) ≡ Cut.items_in numbers quad_from n list
  unfolding Cut.items_in
  items_quads zero list h = refl
  items_quads (suc n) list h = rw (quad_cut numbers list h, items_quads n (drop numbers list) h)

  groups_quads : (counts list : List ℕ) → 5 ≤ numbers → map (map quad_from) (Cut.groups_in numbers (take numbers) counts list) ≡ Cut.groups_in numbers quad_from counts list
  unfolding Cut.groups_in
  groups_quads [] list h = refl
  groups_quads (n ∷ counts) list h = rw (items_quads n list h, groups_quads counts (drop (n * numbers) list) h)

-- ---- the mesh

module _ (form : Form) (faces : List OrientedBlockFace) (counts list : List ℕ) where
  abbrev mesh : Mesh
  mesh = handed_mesh form faces counts list

  -- Its quads are those that the list's checks look at;
  pub handed_quads : 5 ≤ form.numbers → mesh_quads mesh ≡ handed form.numbers faces counts list
  unfolding handed_mesh mesh_quads handed
  handed_quads h = ap (oriented faces) (groups_quads form.numbers counts list h)

  -- its groups have as many as the counts say,
  pub handed_counts : map length mesh.groups ≡ counts
  unfolding handed_mesh
  handed_counts = groups_counts form.numbers (take form.numbers) counts list

  -- and together so many;
  pub handed_total : quad_count mesh ≡ total counts
  handed_total = sym (total_joined mesh.groups) ∙ ap total handed_counts

  -- its numbers are the list's first;
  pub handed_numbers : mesh_numbers mesh ≡ take (total counts * form.numbers) list
  unfolding handed_mesh
  handed_numbers = groups_numbers form.numbers counts list

  -- and where the list holds them each quad has all of its own.
  pub handed_long : total counts * form.numbers ≤ length list → Each (Each (Long form.numbers)) mesh.groups
  unfolding handed_mesh
  handed_long h = groups_long form.numbers counts list h

-- A mesh is what its faces, its groups' lengths and its numbers hand in, whatever follows these.
pub handed_back : (form : Form) (m : Mesh) (rest : List ℕ) → Each (Each (Long form.numbers)) m.groups
    → handed_mesh form m.faces (map length m.groups) (mesh_numbers m ++ rest) ≡ m
unfolding handed_mesh
handed_back form m rest h = rw (groups_cut form.numbers m.groups rest h)
