-- Loops over the groups of a mesh that has passed its checks, and over the quads of a group: what they know of what is at hand, and of what is left.
use mathlib.Core.Bool.{true}
use mathlib.Core.List.{List, [], ◌∷◌, ◌++◌}
use mathlib.Core.Logic.{◌⊎◌, inl, inr}
use mathlib.Core.Path.{◌≡◌, refl, ◌∙◌, ap}
use Prim.Native.Nat.{ℕ, ◌+◌, ◌-◌, ◌*◌, ◌≤◌, ◌<◌}
use native.Mathlib.Nat.{add-mul}
use native.Mathlib.Omega.{arith}
use lib.ListN.{length, take, drop, length-append}
use lib.Seq.{drop-drop}
use Rattle.geometry.specs.declared.quad.UnorientedQuad.{UnorientedQuad}
use Rattle.geometry.specs.declared.face.OrientedBlockFace.{OrientedBlockFace}
use Rattle.geometry.specs.Refusal.{accepted, checked}
use Rattle.geometry.specs.Checks.{proper_sign}
use Rattle.geometry.specs.Lists.{Each}
use Rattle.geometry.proofs.Lists.{each_left, each_right}
use Rattle.listing.specs.Listing.{capacity}
use Rattle.listing.specs.Cut.{groups_in}
use Rattle.listing.proofs.Pushed.{room_enough}
use Rattle.greedy.specs.Greedy.{quad_numbers}
use Rattle.greedy.specs.Call.{quad_from}
use Rattle.writing.specs.Handed.{OrientedQuad, oriented, numbered, total, most_quads, listed_checks}
use Rattle.writing.specs.Left.{quads_left, mesh_left, groups_left}
use Rattle.writing.specs.Statements.{WithinQuad, Passes}
use Rattle.writing.proofs.Rest.{numbered_append, quad_cut, quads_next, quads_done, quads_count, mesh_start}
use Rattle.writing.proofs.Ordered.{order_passed}
use Rattle.obj.specs.Text.{quad_text, first_line, text}
use Rattle.obj.specs.Obj.{obj_text}
use Rattle.obj.specs.Writer.{on, Drawable, GroupReady, group_text}
use Rattle.obj.proofs.Lengths.{quads_at_most}

-- The quad that stands in the list from a number on.
abbrev pub quad_at : List ℕ → ℕ → UnorientedQuad
quad_at list from = quad_from (drop from list)

-- A quad is read from its own numbers in the list.
pub quad_read : (list : List ℕ) (from : ℕ) → quad_from (take (from + quad_numbers - from) (drop from list)) ≡ quad_at list from
quad_read list from = quad_cut (from + quad_numbers - from) (drop from list) (omega arith)

-- The lines of a group are at most 138 bytes a quad.
pub group_at_most : {list : List ℕ} {face : OrientedBlockFace} {first count : ℕ} → GroupReady list face first count → length (group_text list face first count) ≤ 138 * count
group_at_most {list} {face} {first} {count} ready =
    let many = quads_count quad_numbers list face (first * quad_numbers) count in
    omega (arith, quads_at_most first (quads_left quad_numbers list face (first * quad_numbers) count) ready.within (omega (arith, ready.few)), many)

-- What is left, measured: the next of it, and what is left then.
pub measured : (next rest : List ℕ) {whole : List ℕ} {long : ℕ} → whole ≡ next ++ rest → long ≡ length next → length whole ≡ long + length rest
measured next rest cut is = rw (cut, is) (length-append next rest)

-- A loop over the quads of a group, by their numbers in the mesh up to some end: before it there is one, and the others are left after it.
module _ (list : List ℕ) (face : OrientedBlockFace) (k end : ℕ) where
  next_and_rest : k < end → quads_left quad_numbers list face (k * quad_numbers) (end - k) ≡ on face (quad_at list (k * quad_numbers)) ∷ quads_left quad_numbers list face ((k + 1) * quad_numbers) (end - (k + 1))
  next_and_rest h =
      let after : k * quad_numbers + quad_numbers ≡ (k + 1) * quad_numbers = omega arith in
      rw after at (quads_next quad_numbers list face (k * quad_numbers) k end h)

  -- So with what is written of them,
  pub text_next : k < end → {q : UnorientedQuad} → q ≡ quad_at list (k * quad_numbers)
      → group_text list face k (end - k) ≡ quad_text k (on face q) ++ group_text list face (k + 1) (end - (k + 1))
  unfolding numbered
  text_next h is = rw (next_and_rest h, is)

  -- and at the end nothing is left.
  pub text_done : end ≤ k → group_text list face k (end - k) ≡ []
  unfolding numbered
  text_done h = rw (quads_done quad_numbers list face (k * quad_numbers) k end h)

module _ {list : List ℕ} {face : OrientedBlockFace} {k end : ℕ} (ready : GroupReady list face k (end - k)) (h : k < end) where
  -- The quad at hand can be drawn,
  pub ready_drawable : {q : UnorientedQuad} → q ≡ quad_at list (k * quad_numbers) → Drawable face q
  unfolding Each
  ready_drawable is =
      let both = rw (next_and_rest list face k end h) at ready.within in
      record { proper = ready.proper; within = rw is both.0 }

  -- its numbers are the list's,
  pub ready_held : k * quad_numbers + quad_numbers ≤ length list
  ready_held = room_enough k (length list) quad_numbers (omega (arith, ready.held))

  -- and the others are a group that is ready.
  pub ready_on : GroupReady list face (k + 1) (end - (k + 1))
  unfolding Each
  ready_on =
      let both = rw (next_and_rest list face k end h) at ready.within in
      record { proper = ready.proper; within = both.1; few = omega (arith, ready.few); held = omega (arith, ready.held) }

-- ---- the groups

-- Groups that can be drawn, with their faces and counts, after so many quads of a list.
pub record GroupsReady (list : List ℕ) (faces : List OrientedBlockFace) (counts : List ℕ) (first : ℕ) : Type 0 where
  pub proper : Each (λ (f : OrientedBlockFace). proper_sign f.n_sign ≡ true) faces
  pub within : Each WithinQuad (mesh_left quad_numbers list (first * quad_numbers) faces counts)
  pub few : first + total counts ≤ most_quads
  pub held : first + total counts ≤ capacity quad_numbers (length list)

-- What is written of them.
abbrev pub groups_text : List ℕ → List OrientedBlockFace → List ℕ → ℕ → List ℕ
groups_text list faces counts first = groups_left quad_text quad_numbers list first (first * quad_numbers) faces counts

-- All groups of a mesh that has passed its checks can be drawn, and what is written of them is the text after its first line.
pub mesh_ready : {list : List ℕ} {faces : List OrientedBlockFace} {counts : List ℕ} → checked (listed_checks faces counts list) ≡ accepted tt → GroupsReady list faces counts 0
mesh_ready {list} {faces} {counts} passed =
    let p : Passes quad_numbers faces counts list = order_passed quad_numbers faces counts list passed in
    record { proper = p.signs; within = rw (mesh_start quad_numbers list faces counts) p.quads; few = omega (arith, p.few); held = omega (arith, p.held) }

pub mesh_text : (list : List ℕ) (faces : List OrientedBlockFace) (counts : List ℕ) → obj_text faces counts list ≡ first_line ++ groups_text list faces counts 0
unfolding text
mesh_text list faces counts = rw (mesh_start quad_numbers list faces counts)

-- A loop over groups: one is the next, and the others are left after it.
module _ (list : List ℕ) {faces rest : List OrientedBlockFace} {face : OrientedBlockFace} (f : faces ≡ face ∷ rest) {counts behind : List ℕ} {count : ℕ} (n : counts ≡ count ∷ behind) (first : ℕ) where
  next_and_others : mesh_left quad_numbers list (first * quad_numbers) faces counts
      ≡ quads_left quad_numbers list face (first * quad_numbers) count ++ mesh_left quad_numbers list ((first + count) * quad_numbers) rest behind
  unfolding mesh_left quads_left oriented groups_in
  next_and_others =
      let after : first * quad_numbers + count * quad_numbers ≡ (first + count) * quad_numbers = omega (arith, add-mul first count quad_numbers) in
      rw (f, n, drop-drop (count * quad_numbers) (first * quad_numbers) list, after)

  -- So with what is written of them,
  pub groups_next : groups_text list faces counts first ≡ group_text list face first count ++ groups_text list rest behind (first + count)
  groups_next =
      let here : List OrientedQuad = quads_left quad_numbers list face (first * quad_numbers) count in
      let others : List OrientedQuad = mesh_left quad_numbers list ((first + count) * quad_numbers) rest behind in
      rw next_and_others
      (numbered_append quad_text first here others
      ∙ ap (λ (m : ℕ). numbered quad_text first here ++ numbered quad_text (first + m) others) (quads_count quad_numbers list face (first * quad_numbers) count))

  module _ (ready : GroupsReady list faces counts first) where
    -- the next can be drawn,
    pub groups_ready : GroupReady list face first count
    unfolding Each total
    groups_ready =
        let proper = rw f at ready.proper in
        let few = rw n at ready.few in
        let held = rw n at ready.held in
        record { proper = proper.0; within = each_left WithinQuad (quads_left quad_numbers list face (first * quad_numbers) count) _ (rw next_and_others at ready.within); few = omega arith; held = omega arith }

    -- and so can the others.
    pub groups_on : GroupsReady list rest behind (first + count)
    unfolding Each total
    groups_on =
        let proper = rw f at ready.proper in
        let few = rw n at ready.few in
        let held = rw n at ready.held in
        record { proper = proper.1; within = each_right WithinQuad (quads_left quad_numbers list face (first * quad_numbers) count) _ (rw next_and_others at ready.within); few = omega arith; held = omega arith }

-- Where there is no group left, nothing is written.
no_groups : (list : List ℕ) (faces : List OrientedBlockFace) (counts : List ℕ) (first : ℕ) → (length faces ≡ 0) ⊎ (length counts ≡ 0) → groups_text list faces counts first ≡ []
unfolding mesh_left oriented groups_in numbered
no_groups list [] counts first h = refl
no_groups list (face ∷ faces) [] first h = refl
no_groups list (face ∷ faces) (count ∷ counts) first h = let none : ⊥ = elim h [ inl f ↦ omega arith | inr c ↦ omega arith ] in absurd none

-- So a loop over groups and their counts together ends.
pub groups_done : (list : List ℕ) (faces : List OrientedBlockFace) (counts : List ℕ) (first : ℕ) {F C : Type 0} {f : F → Type 0} {c : C → Type 0}
    → ((x : F) × ((length faces ≡ 0) × f x)) ⊎ ((x : C) × ((length counts ≡ 0) × c x)) → groups_text list faces counts first ≡ []
groups_done list faces counts first h = no_groups list faces counts first (elim h [ inl l ↦ inl l.1.0 | inr r ↦ inr r.1.0 ])
