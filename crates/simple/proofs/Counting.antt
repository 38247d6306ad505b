-- Loops that count over indices a stride apart.
use mathlib.Core.List.{List}
use mathlib.Core.Path.{◌≡◌, refl}
use Prim.Native.Nat.{ℕ, ◌+◌, ◌*◌, ◌≤◌, ◌<◌}
use native.Mathlib.Nat.{mul-one}
use native.Mathlib.Omega.{arith}
use lib.ListN.{length}
use Rattle.voxels.specs.Loop.{looped, step_by, summed}
use Rattle.voxels.proofs.Loops.{Underway, underway_done, stride_fits, sums_join, underway_more, sum_at_most}
use Rattle.voxels.specs.declared.index.Stride.{Stride}
use Rattle.simple.specs.declared.rows.Rows.{Rows}
use Rattle.simple.specs.Ready.{Stepped, VoxelReady, RowReady, RowsReady, reach, Room, Countable}
use Rattle.simple.specs.Count.{Counted}
use Rattle.simple.proofs.Sixes.{room_less}

-- A row and rows are loops that can be counted.
pub row_can : {voxels : List ℕ} {strides : List Stride} {numbers : List ℕ} {i wide : ℕ} → Countable (λ (o : ℕ). RowReady voxels o i wide) strides numbers wide
    → Countable (λ (o : ℕ). Stepped (VoxelReady voxels o) i 1 wide 1) strides numbers (wide * 1)
row_can can = record { each = λ f b. (can.each f b).steps; room = rw mul-one can.room }

pub rows_can : {voxels : List ℕ} {strides : List Stride} {numbers : List ℕ} {i : ℕ} {rows : Rows} → Countable (λ (o : ℕ). RowsReady voxels o i rows) strides numbers (reach rows)
    → Countable (λ (o : ℕ). Stepped (λ (j : ℕ). RowReady voxels o j rows.wide) i rows.stride.0 rows.high rows.wide) strides numbers (rows.high * rows.stride.0)
rows_can can = record { each = λ f b. (can.each f b).steps; room = can.room }

-- An index on the way fits where the one at the end does.
pub place_fits : (i d k n : ℕ) → k < n → {all : ℕ} → i + n * d ≤ all → i + k * d ≤ all
place_fits i d k n h fits = omega (arith, stride_fits k n d h)

-- A loop, k of n done: each number grew by what `more` says of its face at the indices so far, summed.
pub record Counting (was now : List ℕ) (more : ℕ → ℕ → ℕ) (d i n k : ℕ) : Type 0 where
  pub at : Underway d i n k (i + k * d)
  pub so_far : Counted was now (λ (f : ℕ). summed (more f) d i k)

module _ {was : List ℕ} {more : ℕ → ℕ → ℕ} {d i n : ℕ} where
  -- It starts.
  pub counting_start : length was ≡ 6 → Counting was was more d i n 0
  unfolding looped
  counting_start e = record { at = record { within = omega arith; place = refl }; so_far = record { each = λ f h. omega arith; all = e } }

  module _ {now : List ℕ} {k : ℕ} (l : Counting was now more d i n k) where
    -- The numbers can grow by one more turn.
    pub counting_room : (most : ℕ) → ((f j : ℕ) → more f j ≤ most) → Room was (n * most) → k < n → Room now most
    counting_room most few room h =
        record {
          all = l.so_far.all;
          each = λ f below.
              omega (arith, l.so_far.each f below, sum_at_most (step_by d) (more f) most k i (few f), room.each f below, stride_fits k n most h);
        }

    module _ (h : k < n) {j : ℕ} (at : j ≡ i + k * d) where
      -- What each turn passes through can be counted, where all that the loop does can,
      pub counting_can : (ready : ℕ → ℕ → Type 0) {strides : List Stride} {many : ℕ} → Countable (λ (o : ℕ). Stepped (ready o) i d n many) strides was (n * d) → ((f j : ℕ) → more f j ≤ many)
          → Countable (λ (o : ℕ). ready o j) strides now many
      counting_can ready can few =
          let apart = (can.each 0 (omega arith)).apart in
          record {
            each = λ f b. rw at ((can.each f b).each k h);
            room = room_less (counting_room d (λ f j. omega (arith, few f j)) can.room h) apart;
          }

      -- and it counts one more.
      pub counting_on : {now' : List ℕ} → Counted now now' (λ (f : ℕ). more f j) → Counting was now' more d i n (k + 1)
      counting_on counted =
          record {
            at = record { within = omega arith; place = refl };
            so_far = record {
              each = λ f below. rw (counted.each f below, l.so_far.each f below, underway_more sums_join (more f) l.at, at) (omega arith);
              all = counted.all;
            };
          }

    -- At the end all are counted.
    pub counting_done : n ≤ k → Counted was now (λ (f : ℕ). summed (more f) d i n)
    counting_done h = rw (underway_done l.at h) at l.so_far
