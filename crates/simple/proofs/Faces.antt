-- A face's group, as the loops list it: by indices from the interior's minimum on, with the wrapped offset to the neighbours. And that all that the loops read is ready.
use mathlib.Core.Bool.{Bool}
use mathlib.Core.List.{List}
use mathlib.Core.Path.{◌≡◌, refl, sym, ◌∙◌, ap}
use Prim.Native.Nat.{ℕ, ◌+◌, ◌*◌, ◌%◌, ◌≤◌, ◌<◌}
use native.Mathlib.Nat.{add-zero, mul-one, mul_comm, mul-le-mul, mul-le-mul_left, mul-le-mul_right, zero-mul}
use native.Mathlib.Omega.{arith}
use lib.ListN.{length}
use Rattle.geometry.specs.declared.axis.Axis.{Axis}
use Rattle.geometry.specs.declared.axis.Axis.TheVariants.{X, Y, Z}
use Rattle.geometry.specs.declared.face.OrientedBlockFace.{OrientedBlockFace}
use Rattle.geometry.specs.Point.{Point, at, along}
use Rattle.geometry.specs.Axes.{positive, n_axis}
use Rattle.voxels.specs.Shape.{size, index, stride, InShape, field}
use Rattle.voxels.specs.Extent.{interior, scan}
use Rattle.voxels.specs.Visible.{modulus, stepped, visible, visibility_offset, offset_index}
use Rattle.voxels.specs.Entered.{most_voxels, Held, SoundAround, wide_of, high_of, deep_of}
use Rattle.voxels.specs.Rows.{kept}
use Rattle.voxels.proofs.Places.{index_at, index_below}
use Rattle.voxels.proofs.Scan.{those_gathered, gathered_scan, every_in_step, inside_at}
use Rattle.voxels.proofs.Held.{axis_small}
use Rattle.voxels.proofs.Entered.{minimum_index, entered_stride}
use Rattle.voxels.proofs.Steps.{box_in_shape, neighbour_in_box, offset_leads}
use Rattle.rules.specs.Unit.{unit_group}
use Rattle.simple.specs.Ready.{shows_at, RowReady, RowsReady, SlicesReady}
use Rattle.simple.specs.List.{voxel_quad, row_quads, rows_quads, slices_quads}
use Rattle.simple.specs.Kernel.{Meshable, slices_of, kernel_stride}
use Rattle.simple.proofs.Neighbours.{row_of_voxels}
use Rattle.simple.proofs.Soundness.{sound_at, gap_good}
use Rattle.voxels.specs.declared.extent.Extent.{Extent}

module _ (shape : Point) (vs : List ℕ) (min max : Point) (h : Held shape (length vs) min max) (sound : SoundAround vs shape (interior min max)) where
  abbrev inner : Extent
  inner = interior min max

  abbrev start : ℕ
  start = index shape inner.minimum

  -- A point so many steps up from the interior's minimum, not past its bound, lies in the shape.
  at_in_shape : (i j k : ℕ) → i ≤ wide_of inner → j ≤ high_of inner → k ≤ deep_of inner → InShape shape (at (inner.minimum.x + i) (inner.minimum.y + j) (inner.minimum.z + k))
  unfolding along
  at_in_shape i j k hi hj hk = elim [
    | X ↦ omega (arith, h.spans X, h.within X)
    | Y ↦ omega (arith, h.spans Y, h.within Y)
    | Z ↦ omega (arith, h.spans Z, h.within Z)
  ]

  at_below : (i j k : ℕ) → i ≤ wide_of inner → j ≤ high_of inner → k ≤ deep_of inner → start + k * stride shape Z + j * stride shape Y + i < size shape
  at_below i j k hi hj hk = omega (arith, index_at shape inner.minimum i j k, index_below shape _ (at_in_shape i j k hi hj hk))

  -- The slices hold no more voxels than the shape, with what lies between them
  pub few_slices : deep_of inner * stride shape Z ≤ most_voxels
  few_slices = omega (arith, h.small, zero-mul (stride shape Y), at_below 0 0 (deep_of inner) (omega arith) (omega arith) (omega arith))

  -- or without.
  pub few_voxels_lem : deep_of inner * (high_of inner * wide_of inner) ≤ most_voxels
  unfolding along stride
  few_voxels_lem =
      let slice : high_of inner * wide_of inner ≤ shape.x * shape.y =
      omega (arith, mul_comm shape.x shape.y, mul-le-mul {n₁ = high_of inner} {m₁ = wide_of inner} {n₂ = shape.y} {m₂ = shape.x} (omega (arith, h.spans Y, h.within Y)) (omega (arith, h.spans X, h.within X))) in
      omega (arith, few_slices, mul-le-mul_left {m = high_of inner * wide_of inner} {n = shape.x * shape.y} (deep_of inner) slice)

  module _ (up : Bool) (n : Axis) where
    abbrev offset : ℕ
    offset = visibility_offset up (stride shape n)

    -- The offset leads from a voxel of the interior to its neighbour.
    at_beyond : (i j k : ℕ) → i < wide_of inner → j < high_of inner → k < deep_of inner
        → offset_index (start + k * stride shape Z + j * stride shape Y + i) offset ≡ index shape (stepped up n (at (inner.minimum.x + i) (inner.minimum.y + j) (inner.minimum.z + k)))
    at_beyond i j k hi hj hk =
        ap (λ (m : ℕ). offset_index m offset) (sym (index_at shape inner.minimum i j k))
        ∙ offset_leads shape (length vs) min max h up n _ (inside_at inner i j k hi hj hk)

    beyond_below : (i j k : ℕ) → i < wide_of inner → j < high_of inner → k < deep_of inner → offset_index (start + k * stride shape Z + j * stride shape Y + i) offset < size shape
    beyond_below i j k hi hj hk =
        rw (at_beyond i j k hi hj hk)
        (index_below shape _ (box_in_shape shape (length vs) min max h _ (neighbour_in_box min max up n _ (inside_at inner i j k hi hj hk))))

    -- ---- all that the loops read is ready

    row_ready : (j k : ℕ) → j < high_of inner → k < deep_of inner → RowReady vs offset (start + k * stride shape Z + j * stride shape Y) (wide_of inner)
    unfolding along
    row_ready j k hj hk =
        row_of_voxels
        (λ i hi. record {
          here = omega (arith, h.enough, at_below i j k (omega arith) (omega arith) (omega arith));
          beyond = omega (arith, h.enough, beyond_below i j k hi hj hk);
          good = sound_at shape (length vs) min max h vs sound i j k (omega arith) (omega arith) (omega arith);
        })
        (omega (arith, h.small, at_below (wide_of inner) j k (omega arith) (omega arith) (omega arith)))
        (λ some. omega (arith, h.small, h.spans X, h.within X, axis_small shape (length vs) min max h X, rw add-zero at (beyond_below 0 j k some hj hk)))
        (omega (arith, h.spans X, h.within X, h.short X))

    rows_ready : (k : ℕ) → k < deep_of inner → RowsReady vs offset (start + k * stride shape Z) (slices_of shape inner).rows
    unfolding along stride
    rows_ready k hk = record {
      steps = record {
        each = λ j hj. row_ready j k hj hk;
        last = omega (arith, h.small, at_below 0 (high_of inner) k (omega arith) (omega arith) (omega arith));
        apart = omega (arith, h.spans X, h.within X);
      };
      between = λ two j hj. gap_good shape (length vs) min max h vs sound j k hj hk two;
    }

    pub slices_ready : SlicesReady vs offset start (slices_of shape inner)
    unfolding along stride
    slices_ready = record {
      each = rows_ready;
      last = omega (arith, h.small, zero-mul (stride shape Y), at_below 0 0 (deep_of inner) (omega arith) (omega arith) (omega arith));
      apart = omega (arith, mul_comm shape.x shape.y, mul-le-mul_right {m = high_of inner} {n = shape.y} shape.x (omega (arith, h.spans Y, h.within Y)));
    }

    -- ---- the group

    module _ (f : OrientedBlockFace) (side : positive f.n_sign ≡ up) (normal : n_axis f ≡ n) where
      -- One voxel of it.
      at_voxel : (i j k : ℕ) → i < wide_of inner → j < high_of inner → k < deep_of inner
          → kept (visible f (field shape vs)) (at (inner.minimum.x + i) (inner.minimum.y + j) (inner.minimum.z + k))
          ≡ voxel_quad vs offset (at (inner.minimum.x + i) (inner.minimum.y + j) (inner.minimum.z + k)) (start + k * stride shape Z + j * stride shape Y + i)
      unfolding kept voxel_quad shows_at visible field
      at_voxel i j k hi hj hk =
          rw (side, normal, at_beyond i j k hi hj hk, index_at shape inner.minimum i j k)

      -- The whole group.
      pub flat_group : unit_group inner (field shape vs) f ≡ slices_quads vs offset (slices_of shape inner) inner.minimum start
      unfolding unit_group slices_quads rows_quads row_quads
      flat_group =
          those_gathered (visible f (field shape vs)) (scan inner)
          ∙ gathered_scan (kept (visible f (field shape vs))) inner
          ∙ every_in_step (stride shape Z) _ _ (deep_of inner) inner.minimum.z start (λ k hk.
          every_in_step (stride shape Y) _ _ (high_of inner) inner.minimum.y (start + k * stride shape Z) (λ j hj.
          every_in_step 1 _ _ (wide_of inner) inner.minimum.x (start + k * stride shape Z + j * stride shape Y) (λ i hi.
          rw (mul-one i) (at_voxel i j k hi hj hk))))

-- ---- from the code's numbers

-- What the code's numbers are good for, an index and an offset: all that the loops read is ready, and what they list is a face's group.
pub record FaceReady (vs : List ℕ) (shape : Point) (inner : Extent) (f : OrientedBlockFace) (off i : ℕ) : Type 0 where
  pub ready : SlicesReady vs off i (slices_of shape inner)
  pub group : unit_group inner (field shape vs) f ≡ slices_quads vs off (slices_of shape inner) inner.minimum i

module _ {vs : List ℕ} {shape : Point} {inner : Extent} (can : Meshable vs shape inner) where
  pub face_ready : (f : OrientedBlockFace) {off i : ℕ} → i ≡ index shape inner.minimum % modulus → off ≡ kernel_stride shape f → FaceReady vs shape inner f off i
  unfolding kernel_stride
  face_ready f {off} {i} is-i is-off =
      let entered = can.entered in
      let up : Bool = positive f.n_sign in
      let o : off ≡ visibility_offset up (stride shape (n_axis f)) = is-off ∙ ap (visibility_offset up) (entered_stride _ shape inner entered (n_axis f) refl) in
      let first : i ≡ index shape (interior entered.min entered.max).minimum = rw entered.is at (minimum_index _ shape inner entered is-i) in
      let sound = rw entered.is at can.sound in
      rw (entered.is, o, first)
      (record {
        ready = slices_ready shape vs entered.min entered.max entered.held sound up (n_axis f);
        group = flat_group shape vs entered.min entered.max entered.held sound up (n_axis f) f refl refl;
      })

  -- The slices hold no more voxels than a shape has.
  pub few_in_slices : deep_of inner * stride shape Z ≤ most_voxels
  few_in_slices = let entered = can.entered in rw entered.is (few_slices shape vs entered.min entered.max entered.held (rw entered.is at can.sound))

  pub few_in_all : deep_of inner * (high_of inner * wide_of inner) ≤ most_voxels
  few_in_all = let entered = can.entered in rw entered.is (few_voxels_lem shape vs entered.min entered.max entered.held (rw entered.is at can.sound))
