-- From the loops to the groups: that all six faces can be counted and listed, that the counts are the groups', and that the runs lie apart.
use mathlib.Core.List.{List, [], map}
use mathlib.Core.Path.{◌≡◌, refl, sym, ◌∙◌, ap}
use Prim.Native.Nat.{ℕ, zero, suc, ◌+◌, ◌*◌, ◌%◌, ◌≤◌, ◌<◌}
use native.Mathlib.Omega.{arith}
use lib.ListN.{length, length-map, get_or, replicate}
use Rattle.std.proofs.lemmas.List.{nil_from_length, get_or-map}
use lib.Seq.{ext_get_or}
use lib.Dec.{eqb}
use borrow.Author.Tests.{eqb-true, eqb-false}
use Rattle.geometry.specs.declared.axis.Axis.TheVariants.{X, Y, Z}
use Rattle.geometry.specs.declared.face.OrientedBlockFace.{OrientedBlockFace}
use Rattle.geometry.specs.Point.{Point, along}
use Rattle.geometry.proofs.Refusals.{split}
use Rattle.voxels.specs.declared.extent.Extent.{Extent}
use Rattle.voxels.specs.declared.index.Stride.{Stride}
use Rattle.voxels.specs.Shape.{index, field}
use Rattle.voxels.specs.Visible.{modulus}
use Rattle.voxels.specs.Entered.{most_voxels}
use Rattle.voxels.proofs.Entered.{below, bound_small}
use Rattle.listing.specs.Pushed.{output, MadeGroups}
use Rattle.rules.specs.Unit.{unit_group, unit_groups}
use Rattle.simple.specs.declared.block.Block.{Block}
use Rattle.simple.specs.declared.rows.Slices.{Slices}
use Rattle.simple.specs.Unit.{unit_numbers, numbers_of}
use Rattle.simple.specs.Ready.{offset_of, EachFace, SlicesReady, Room, SlicesCountable}
use Rattle.simple.specs.Count.{slices_shown, SlicesCounted}
use Rattle.simple.specs.List.{slices_quads, Apart, Small, SlicesListable, SlicesListed}
use Rattle.simple.specs.Kernel.{Meshable, slices_of, no_face, KernelOf, start_of, Starts}
use Rattle.simple.proofs.Faces.{FaceReady, face_ready, few_in_slices, few_in_all}
use Rattle.simple.proofs.Totals.{slices_length, slices_at_most}
use Rattle.simple.proofs.Sixes.{zeros_room, counted_zeros}
use Rattle.simple.proofs.Runs.{runs_none, joined_apart, listed_joined}

-- The lengths of the faces' lists, face by face.
lengths_at : (g : OrientedBlockFace → List Point) (faces : List OrientedBlockFace) (f : ℕ) → f < length faces → get_or (map length (map g faces)) f 0 ≡ length (g (get_or faces f no_face))
lengths_at g faces f h = get_or-map length (map g faces) f [] 0 (rw (length-map faces g) h) ∙ ap length (get_or-map g faces f no_face [] h)

-- No count is above where the runs after it begin.
start_above : (counts : List ℕ) (n f : ℕ) → f < n → get_or counts f 0 ≤ start_of counts n
unfolding start_of
start_above counts zero f h = let none : ⊥ = omega arith in absurd none
start_above counts (suc n) f h =
    split (eqb f n)
    (λ t. rw (eqb-true f n t) (omega arith))
    (λ d. let other = eqb-false f n d in omega (arith, start_above counts n f (omega arith)))

-- What is meshed: an extent of a block that can be, by six faces and their strides, from the first index on through its slices.
pub record Meshing (block : Block) (shape : Point) (inner : Extent) (faces : List OrientedBlockFace) (i : ℕ) (slices : Slices) : Type 0 where
  pub can : Meshable block.voxels.now shape inner
  pub six : length faces ≡ 6
  pub kernel : KernelOf shape faces block.strides
  pub first : i ≡ index shape inner.minimum % modulus
  pub through : slices ≡ slices_of shape inner

module _ {block : Block} {shape : Point} {inner : Extent} {faces : List OrientedBlockFace} {i : ℕ} {slices : Slices} (m : Meshing block shape inner faces i slices) where
  abbrev vs : List ℕ
  vs = block.voxels.now

  abbrev strides : List Stride
  strides = block.strides

  abbrev face_at : ℕ → OrientedBlockFace
  face_at f = get_or faces f no_face

  -- What a face lists, and how many.
  abbrev quads_of : ℕ → List Point
  quads_of f = slices_quads vs (offset_of strides f) slices inner.minimum i

  abbrev shown_of : ℕ → ℕ
  shown_of f = slices_shown vs (offset_of strides f) slices i

  ready_at : (f : ℕ) → f < 6 → FaceReady vs shape inner (face_at f) (offset_of strides f) i
  ready_at f h = face_ready m.can (face_at f) m.first (m.kernel f h)

  -- All that the loops read is ready,
  all_ready : EachFace (λ (f : ℕ). SlicesReady vs (offset_of strides f) i slices)
  all_ready f h = rw m.through (ready_at f h).ready

  -- and each face lists its group, of no more quads than a shape has voxels.
  group_at : (f : ℕ) → f < 6 → quads_of f ≡ unit_group inner (field shape vs) (face_at f)
  group_at f h = rw m.through (sym (ready_at f h).group)

  few : slices.deep * slices.stride.0 ≤ most_voxels
  few = rw m.through (few_in_slices m.can)

  shown : (f : ℕ) → length (quads_of f) ≡ shown_of f
  shown f = slices_length vs (offset_of strides f) slices inner.minimum i

  most : (f : ℕ) → shown_of f ≤ most_voxels
  most f =
      let all : slices.deep * (slices.rows.high * slices.rows.wide) ≤ most_voxels = rw m.through (few_in_all m.can) in
      omega (arith, slices_at_most vs (offset_of strides f) slices i)

  -- So they can be counted from zeros.
  pub all_countable : SlicesCountable block (replicate 6 0) i slices
  all_countable = record { each = all_ready; room = zeros_room (omega (arith, few)) }

  -- After counting
  module _ {counts : List ℕ} (counted : SlicesCounted block (replicate 6 0) counts i slices) where
    count_at : (f : ℕ) → f < 6 → get_or counts f 0 ≡ shown_of f
    count_at f h = counted_zeros counted f h

    -- the counts are the groups',
    pub counts_are : counts ≡ map length (unit_groups inner (field shape vs) faces)
    unfolding unit_groups
    counts_are =
        let group : OrientedBlockFace → List Point = unit_group inner (field shape vs) in
        let long : length (map group faces) ≡ 6 = length-map faces group ∙ m.six in
        ext_get_or 0 counts _ (counted.all ∙ sym (length-map (map group faces) length ∙ long))
        (λ f h.
        let below : f < 6 = omega (arith, counted.all) in
        count_at f below ∙ sym (shown f) ∙ ap length (group_at f below)
        ∙ sym (lengths_at group faces f (omega (arith, m.six))))

    -- none of them is too large,
    pub counts_small : Room counts 0
    counts_small = record { all = counted.all; each = λ f h. omega (arith, count_at f h, most f, few) }

    -- and each run begins where the one before it ends.
    start_after : (f : ℕ) → f < length faces → start_of counts (suc f) ≡ start_of counts f + length (unit_group inner (field shape vs) (face_at f))
    unfolding start_of
    start_after f h = omega (arith, m.six, count_at f (omega (arith, m.six)), shown f, ap length (group_at f (omega (arith, m.six))))

    start_small : (f : ℕ) → f ≤ 6 → start_of counts f ≤ f * most_voxels
    unfolding start_of
    start_small zero h = omega arith
    start_small (suc f) h = omega (arith, start_small f (omega arith), count_at f (omega arith), most f, few)

    -- From cursors that stand there all runs can be listed, since they lie apart,
    module _ {cursors : List ℕ} {end : ℕ} (starts : Starts counts cursors end) where
      runs_apart : Apart cursors quads_of
      unfolding start_of
      runs_apart =
          joined_apart (unit_group inner (field shape vs)) faces no_face (start_of counts) refl start_after cursors quads_of m.six starts.each (λ f h. sym (group_at f h))

      cursors_room : Room cursors (slices.deep * slices.stride.0)
      cursors_room = record { all = starts.all; each = λ f h. omega (arith, starts.each f h, start_small f (omega arith), few) }

      -- No coordinate is large.
      corner_small : Small inner.minimum slices.rows.wide slices.rows.high slices.deep
      unfolding along
      corner_small =
          let lo = below _ shape inner m.can.entered in
          let hi = bound_small _ shape inner m.can.entered in
          rw m.through (record { x = omega (arith, lo X, hi X); y = omega (arith, lo Y, hi Y); z = omega (arith, lo Z, hi Z) })

      pub all_listable : SlicesListable block cursors slices i inner.minimum
      all_listable = record { all = record { can = record { each = all_ready; room = cursors_room }; apart = runs_apart }; small = corner_small }

      -- and what they leave are the groups in turn.
      pub groups_made : {was out now : List ℕ} → SlicesListed block slices i inner.minimum was cursors out now → MadeGroups unit_numbers numbers_of (unit_groups inner (field shape vs) faces) was out end counts
      unfolding start_of unit_groups
      groups_made listed = record {
        is = ap (output _) starts.last
            ∙ listed_joined (unit_group inner (field shape vs)) faces no_face (start_of counts) refl start_after cursors quads_of m.six starts.each (λ f h. sym (group_at f h)) listed;
        each = counts_are;
      }

      -- Where there are none at all nothing need be listed.
      pub none_made : {was : List ℕ} → end ≡ 0 → MadeGroups unit_numbers numbers_of (unit_groups inner (field shape vs) faces) was was end counts
      none_made none =
          let no-quad : (f : ℕ) → f < 6 → length (quads_of f) ≡ 0 = λ f h. omega (arith, starts.last, start_above counts 6 f h, count_at f h, shown f) in
          groups_made {now = cursors} (record {
            is = sym (runs_none 6 _ _ quads_of (λ f h. nil_from_length (quads_of f) (no-quad f h)));
            moved = record { each = λ f h. omega (arith, no-quad f h); all = starts.all };
          })
