-- What is left of a mesh, and one quad or one group less of it: what a loop over a mesh has to show, in the form of its invariant, whatever is made of the quads.
use mathlib.Core.List.{List, [], ◌∷◌, ◌++◌, append_assoc}
use mathlib.Core.Path.{◌≡◌, refl, sym, ◌∙◌, ap}
use Prim.Native.Nat.{ℕ, zero, suc, ◌+◌, ◌-◌, ◌*◌, ◌/◌, ◌≤◌, ◌<◌}
use native.Mathlib.Nat.{mul-le-mul_right, div-mul-le_self, add-mul, zero-mul, div-le_self}
use native.Mathlib.Omega.{arith}
use lib.ListN.{length, get_or, take, drop, length-append, drop_of_length-le}
use lib.Seq.{drop-drop, get_or-take}
use Rattle.geometry.specs.declared.face.OrientedBlockFace.{OrientedBlockFace}
use Rattle.voxels.proofs.Asked.{drop_next}
use Rattle.listing.specs.Listing.{capacity}
use Rattle.listing.specs.Cut.{items_in, groups_in}
use Rattle.listing.proofs.Pushed.{room_enough}
use Rattle.greedy.specs.Call.{quad_from}
use Rattle.writing.specs.Handed.{OrientedQuad, on_face, oriented, numbered, total, handed}
use Rattle.writing.specs.Left.{quads_left, group_left, mesh_left, groups_left, groups_from}

-- ---- numbers

-- What is made of quads in two parts: the second's numbers go on where the first's end.
pub numbered_append : {A : Type 0} (g : ℕ → OrientedQuad → List A) (k : ℕ) (a b : List OrientedQuad) → numbered g k (a ++ b) ≡ numbered g k a ++ numbered g (k + length a) b
unfolding numbered
numbered_append g k [] b = ap (λ (j : ℕ). numbered g j b) (omega arith)
numbered_append g k (q ∷ a) b =
    let on : k + 1 + length a ≡ k + length (q ∷ a) = omega arith in
    rw (numbered_append g (k + 1) a b, on) (sym (append_assoc (g k q) (numbered g (k + 1) a) (numbered g (k + length (q ∷ a)) b)))

-- ---- a group

module _ (numbers : ℕ) (list : List ℕ) (face : OrientedBlockFace) where
  -- The quad that stands in the list from a number on.
  abbrev pub quad_at : ℕ → OrientedQuad
  quad_at at = record { face = face; quad = quad_from (drop at list) }

  -- One quad is the next, and the others are left after it;
  pub quads_next : (at k count : ℕ) → k < count → quads_left numbers list face at (count - k) ≡ quad_at at ∷ quads_left numbers list face (at + numbers) (count - (k + 1))
  unfolding quads_left items_in
  quads_next at k count h =
      let more : count - k ≡ suc (count - (k + 1)) = omega arith in
      rw (more, drop-drop numbers at list)

  -- at the end there is none;
  pub quads_done : (at k count : ℕ) → count ≤ k → quads_left numbers list face at (count - k) ≡ []
  unfolding quads_left items_in
  quads_done at k count h = let none : count - k ≡ zero = omega arith in rw none

  -- and they are as many as the count says.
  pub quads_count : (at count : ℕ) → length (quads_left numbers list face at count) ≡ count
  unfolding quads_left items_in
  quads_count at zero = refl
  quads_count at (suc count) = ap suc (rw (drop-drop numbers at list) (quads_count (at + numbers) count))

-- Where a loop over a group stands that begins after so many quads of the mesh: k of its quads are done, and the next stands in the list from that number on.
pub record InGroup (numbers first count k at : ℕ) : Type 0 where
  pub most : k ≤ count
  pub stands : at ≡ (first + k) * numbers

pub in_start : {numbers first count : ℕ} → InGroup numbers first count 0 (first * numbers)
in_start = record { most = omega arith; stands = omega arith }

pub in_on : {numbers first count k at : ℕ} → InGroup numbers first count k at → k < count → InGroup numbers first count (k + 1) (at + numbers)
in_on {numbers} {first} {count} {k} {at} i h = record { most = omega arith; stands = rw i.stands (omega (arith, add-mul (first + k) 1 numbers, add-mul first (k + 1) numbers, add-mul first k numbers, add-mul k 1 numbers)) }

-- What is made of the quads of a group: at the start all of them are left,
pub group_start : {A : Type 0} (g : ℕ → OrientedQuad → List A) (numbers : ℕ) (list : List ℕ) (face : OrientedBlockFace) (first at count : ℕ)
    → group_left g numbers list face (first + 0) at (count - 0) ≡ group_left g numbers list face first at count
group_start g numbers list face first at count =
    let none : first + 0 ≡ first = omega arith in
    let all : count - 0 ≡ count = omega arith in
    rw (none, all)

module _ {A : Type 0} (g : ℕ → OrientedQuad → List A) (numbers : ℕ) (list : List ℕ) (face : OrientedBlockFace) (first at k count : ℕ) where
  -- then there is what is made of one, and what is left after it,
  pub group_next : k < count
      → group_left g numbers list face (first + k) at (count - k) ≡ g (first + k) (quad_at numbers list face at) ++ group_left g numbers list face (first + (k + 1)) (at + numbers) (count - (k + 1))
  unfolding numbered
  group_next h =
      let next : first + (k + 1) ≡ first + k + 1 = omega arith in
      rw (quads_next numbers list face at k count h, next)

  -- and at the end nothing.
  pub group_done : count ≤ k → group_left g numbers list face (first + k) at (count - k) ≡ []
  unfolding numbered
  group_done h = rw (quads_done numbers list face at k count h)

-- A quad is read from its own five numbers.
pub quad_cut : (n : ℕ) (l : List ℕ) → 5 ≤ n → quad_from (take n l) ≡ quad_from l
unfolding quad_from
quad_cut n l h = rw (get_or-take n l 0 0 (omega arith), get_or-take n l 1 0 (omega arith), get_or-take n l 2 0 (omega arith), get_or-take n l 3 0 (omega arith), get_or-take n l 4 0 (omega arith))

-- ---- the groups

module _ (numbers : ℕ) (list : List ℕ) where
  -- One group is the next, and the others are left after it.
  pub mesh_next : (at k : ℕ) (faces : List OrientedBlockFace) (counts : List ℕ) (d : OrientedBlockFace) → k < length faces → k < length counts
      → mesh_left numbers list at (drop k faces) (drop k counts)
      ≡ quads_left numbers list (get_or faces k d) at (get_or counts k 0) ++ mesh_left numbers list (at + get_or counts k 0 * numbers) (drop (k + 1) faces) (drop (k + 1) counts)
  unfolding mesh_left quads_left oriented groups_in
  mesh_next at k faces counts d hf hc =
      rw (drop_next faces k d hf, drop_next counts k 0 hc, drop-drop (get_or counts k 0 * numbers) at list)

  -- At the end there is none.
  pub mesh_done : (at k : ℕ) (faces : List OrientedBlockFace) (counts : List ℕ) → length faces ≤ k → mesh_left numbers list at (drop k faces) (drop k counts) ≡ []
  unfolding mesh_left oriented
  mesh_done at k faces counts h = rw (drop_of_length-le faces h)

  -- At the start all are left.
  pub mesh_start : (faces : List OrientedBlockFace) (counts : List ℕ) → mesh_left numbers list 0 (drop 0 faces) (drop 0 counts) ≡ handed numbers faces counts list
  unfolding mesh_left handed
  mesh_start faces counts = refl

-- A mesh has as many quads as its counts say, where there is a face for each.
pub handed_count : (numbers : ℕ) (faces : List OrientedBlockFace) (counts list : List ℕ) → length faces ≡ length counts → length (handed numbers faces counts list) ≡ total counts
unfolding handed oriented groups_in quads_left total
handed_count numbers [] [] list h = refl
handed_count numbers [] (count ∷ counts) list h = let none : ⊥ = omega arith in absurd none
handed_count numbers (face ∷ faces) [] list h = let none : ⊥ = omega arith in absurd none
handed_count numbers (face ∷ faces) (count ∷ counts) list h =
    omega (
      arith,
      length-append (on_face face (items_in numbers quad_from count list)) (handed numbers faces counts (drop (count * numbers) list)),
      quads_count numbers list face 0 count,
      handed_count numbers faces counts (drop (count * numbers) list) (omega arith),
    )

-- The counts that are left.
pub total_next : (counts : List ℕ) (k : ℕ) → k < length counts → total (drop k counts) ≡ get_or counts k 0 + total (drop (k + 1) counts)
unfolding total
total_next counts k h = rw (drop_next counts k 0 h)

pub total_done : (counts : List ℕ) (k : ℕ) → length counts ≤ k → total (drop k counts) ≡ 0
unfolding total
total_done counts k h = rw (drop_of_length-le counts h)

-- Where a loop over six groups stands: k are done, with so many quads.
pub record Walking (faces : List OrientedBlockFace) (counts : List ℕ) (first k : ℕ) : Type 0 where
  pub most : k ≤ 6
  pub faces_six : length faces ≡ 6
  pub counts_six : length counts ≡ 6
  pub done : first + total (drop k counts) ≡ total counts

pub walking_start : {faces : List OrientedBlockFace} {counts : List ℕ} → length faces ≡ 6 → length counts ≡ 6 → Walking faces counts 0 0
walking_start f c = record { most = omega arith; faces_six = f; counts_six = c; done = omega arith }

module _ {faces : List OrientedBlockFace} {counts : List ℕ} {first k : ℕ} (w : Walking faces counts first k) where
  -- The next group's quads are among all,
  pub walking_most : k < 6 → first + get_or counts k 0 ≤ total counts
  walking_most h = omega (arith, total_next counts k (omega (arith, w.counts_six)), w.done)

  -- and after it the loop stands behind them.
  pub walking_on : k < 6 → Walking faces counts (first + get_or counts k 0) (k + 1)
  walking_on h = record { most = omega arith; faces_six = w.faces_six; counts_six = w.counts_six; done = omega (arith, total_next counts k (omega (arith, w.counts_six)), w.done) }

  module _ {A : Type 0} (g : ℕ → OrientedQuad → List A) (numbers : ℕ) (list : List ℕ) where
    -- What is made of the groups that are left: of the next, and of those after it;
    pub groups_next : (d : OrientedBlockFace) → k < 6
        → groups_from g numbers list faces counts first k
        ≡ group_left g numbers list (get_or faces k d) first (first * numbers) (get_or counts k 0) ++ groups_from g numbers list faces counts (first + get_or counts k 0) (k + 1)
    groups_next d h =
        let f : OrientedBlockFace = get_or faces k d in
        let n : ℕ = get_or counts k 0 in
        let after : first * numbers + n * numbers ≡ (first + n) * numbers = omega (arith, add-mul first n numbers) in
        rw (mesh_next numbers list (first * numbers) k faces counts d (omega (arith, w.faces_six)) (omega (arith, w.counts_six)), after)
        (numbered_append g first (quads_left numbers list f (first * numbers) n) _
        ∙ ap (λ (m : ℕ). group_left g numbers list f first (first * numbers) n ++ groups_left g numbers list (first + m) ((first + n) * numbers) (drop (k + 1) faces) (drop (k + 1) counts)) (quads_count numbers list f (first * numbers) n))

    -- and at the end nothing.
    pub groups_done : 6 ≤ k → groups_from g numbers list faces counts first k ≡ []
    unfolding numbered
    groups_done h = rw (mesh_done numbers list (first * numbers) k faces counts (omega (arith, w.faces_six)))

-- At the start what is left is the mesh.
pub groups_start : {A : Type 0} (g : ℕ → OrientedQuad → List A) (numbers : ℕ) (list : List ℕ) (faces : List OrientedBlockFace) (counts : List ℕ)
    → groups_from g numbers list faces counts 0 0 ≡ numbered g 0 (handed numbers faces counts list)
groups_start g numbers list faces counts = let none : 0 * numbers ≡ 0 = zero-mul numbers in rw (none, mesh_start numbers list faces counts)

-- ---- where they stand

-- A list that holds so many quads has all numbers of each of them: of quad k among count quads after the first ones,
pub quad_held : {numbers first count k at : ℕ} (long : ℕ) → InGroup numbers first count k at → first + count ≤ capacity numbers long → k < count → at + numbers ≤ long
quad_held {numbers} {first} {count} {k} {at} long i room h = rw i.stands (room_enough (first + k) long numbers (omega arith))

-- and of those that stand before a group;
pub group_held : (numbers long first : ℕ) → first ≤ capacity numbers long → first * numbers ≤ long
unfolding capacity
group_held numbers long first room = omega (arith, mul-le-mul_right {m = first} {n = long / numbers} numbers room, div-mul-le_self long numbers)

-- and it holds no more quads than numbers.
pub capacity_most : (numbers long : ℕ) → 1 ≤ numbers → capacity numbers long ≤ long
unfolding capacity
capacity_most numbers long h = div-le_self long numbers
