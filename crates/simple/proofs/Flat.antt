-- Rows two voxels apart, as one run: all of it is ready, and it shows what the rows show and what lies between them.
use mathlib.Core.List.{List}
use mathlib.Core.Path.{◌≡◌, ap}
use Prim.Native.Nat.{ℕ, zero, suc, ◌+◌, ◌-◌, ◌*◌, ◌≤◌, ◌<◌}
use native.Mathlib.Nat.{add-zero, add_assoc, zero-add, zero-mul, suc-mul, mul-le-mul_right}
use native.Mathlib.Omega.{arith}
use lib.Dec.{ltb}
use borrow.Author.Tests.{ltb-true, ltb-false}
use lib.ListN.{length, replicate}
use Rattle.geometry.proofs.Refusals.{split}
use Rattle.voxels.specs.Visible.{offset_index}
use Rattle.voxels.specs.Entered.{most_voxels, longest}
use Rattle.simple.specs.declared.block.Block.{Block}
use Rattle.simple.specs.declared.rows.Rows.{Rows}
use Rattle.simple.specs.Ready.{offset_of, RowReady, NoneBad, RowsReady, reach}
use Rattle.simple.specs.Count.{shown_at, row_shown, rows_shown, RowsCounted, Flat, gaps_of, Within, RunCounted}
use Rattle.simple.proofs.Neighbours.{row_of_voxels, voxel_ready, row_last, on_way}
use Rattle.simple.proofs.Totals.{flat_sum}
use Rattle.simple.proofs.Sixes.{counted_zeros}

-- ---- parts of a run

-- Of a run without a bad voxel no part has one,
pub part_good : (vs : List ℕ) (i n a m : ℕ) → a + m ≤ n → NoneBad vs i n → NoneBad vs (i + a) m
part_good vs i n a m h good k l = let e : i + (a + k) ≡ i + a + k = omega arith in rw e at (good (a + k) (omega arith))

-- and of one that is ready each part is.
pub part_ready : {vs : List ℕ} {o i n : ℕ} (a m : ℕ) → a + m ≤ n → RowReady vs o i n → RowReady vs o (i + a) m
part_ready a m h ready =
    row_of_voxels
    (λ k l. rw (← add_assoc) at (voxel_ready ready (a + k) (omega arith)))
    (omega (arith, row_last ready))
    (λ some. omega (arith, ready.near (omega arith), ready.short))
    (omega (arith, ready.short))

-- Two runs end to end are one.
join_good : (vs : List ℕ) (i m n : ℕ) → NoneBad vs i m → NoneBad vs (i + m) n → NoneBad vs i (m + n)
join_good vs i m n first next k h =
    split (ltb k m)
    (λ t. first k (ltb-true k m t))
    (λ f. let l = ltb-false k m f in let e : i + m + (k - m) ≡ i + k = omega arith in rw e at (next (k - m) (omega arith)))

-- What lies before a run's last voxel was lent where that was.
up_to : (x lent k m wide : ℕ) → k < m + wide → x + (m + (wide - 1)) < lent → x + k < lent
up_to x lent k m wide l far = omega arith

-- From the first of a row to the last of another, no further than can be counted, and with no bad voxel, all is ready.
join_ready : {vs : List ℕ} {o i wide : ℕ} (m : ℕ) → 0 < wide → m + wide ≤ longest → NoneBad vs i (m + wide) → RowReady vs o i wide → RowReady vs o (i + m) wide → RowReady vs o i (m + wide)
join_ready {vs} {o} {i} {wide} m some short good first last =
    let start : offset_index i o ≤ 2 * most_voxels = omega (arith, first.near some) in
    let way : (k : ℕ) → k < m + wide → offset_index (i + k) o ≡ offset_index i o + k = λ k l. on_way o i k start (omega arith) in
    let end : i + m + (wide - 1) ≡ i + (m + (wide - 1)) = omega arith in
    let far : offset_index i o + (m + (wide - 1)) < length vs = rw (end, way (m + (wide - 1)) (omega arith)) at (voxel_ready last (wide - 1) (omega arith)).beyond in
    let most : offset_index i o + m + wide ≤ 2 * most_voxels = rw (way m (omega arith)) at (last.near some) in
    let here : i + (m + (wide - 1)) < length vs = rw end at (voxel_ready last (wide - 1) (omega arith)).here in
    row_of_voxels
    (λ k l. record { here = up_to i (length vs) k m wide l here; beyond = rw (way k l) (up_to (offset_index i o) (length vs) k m wide l far); good = good k l })
    (omega (arith, row_last last))
    (λ _. rw (← add_assoc) most)
    short

-- Rows and what lies between them are one run.
rows_good : (vs : List ℕ) (i wide gap d : ℕ) → d ≡ wide + gap → (h : ℕ) → ((k : ℕ) → k ≤ h → NoneBad vs (i + k * d) wide) → ((k : ℕ) → k < h → NoneBad vs (i + k * d + wide) gap) → NoneBad vs i (h * d + wide)
rows_good vs i wide gap d is zero each between = rw (zero-mul, zero-add) (rw (zero-mul, add-zero) at (each 0 (omega arith)))
rows_good vs i wide gap d is (suc h) each between =
    let long : h * d + wide + gap + wide ≡ suc h * d + wide = omega (arith, suc-mul h d) in
    let next : i + suc h * d ≡ i + (h * d + wide + gap) = omega (arith, suc-mul h d) in
    rw (← long)
    (join_good vs i (h * d + wide + gap) wide
    (join_good vs i (h * d + wide) gap (rows_good vs i wide gap d is h (λ k l. each k (omega arith)) (λ k l. between k (omega arith))) (rw add_assoc at (between h (omega arith))))
    (rw next at (each (suc h) (omega arith))))

-- The run of rows is no longer than the rows with what follows each.
pub long_at_most : (wide d high : ℕ) → wide ≤ d → (high ≡ 0 → ⊥) → (high - 1) * d + wide ≤ high * d
long_at_most wide d high apart some = let all : high ≡ suc (high - 1) = omega arith in omega (arith, suc-mul (high - 1) d, ap (λ (n : ℕ). n * d) all)

-- ---- rows two voxels apart

module _ {rows : Rows} {long : ℕ} (flat : Flat rows long) where
  abbrev wide : ℕ
  wide = rows.wide

  abbrev d : ℕ
  d = rows.stride.0

  abbrev gaps : ℕ
  gaps = rows.high - 1

  -- So the numbers of their faces have room for the run's.
  pub flat_long : long ≤ reach rows
  flat_long = rw flat.is (long_at_most wide d rows.high (omega (arith, flat.apart)) (λ none. omega (arith, flat.high_some)))

  module _ {vs : List ℕ} {o i : ℕ} (ready : RowsReady vs o i rows) where
    -- No voxel of the run is bad,
    flat_good : NoneBad vs i long
    flat_good =
        rw flat.is
        (rows_good vs i wide 2 d flat.apart gaps (λ k l m h. (voxel_ready (ready.steps.each k (omega (arith, flat.high_some))) m h).good) (λ k l. ready.between flat.apart k (omega arith)))

    -- and all of it is ready.
    pub flat_ready : RowReady vs o i long
    flat_ready =
        rw flat.is
        (join_ready (gaps * d) flat.wide_some (omega (arith, flat.is, flat.short)) (rw flat.is at flat_good) (rw (zero-mul, add-zero) at (ready.steps.each 0 flat.high_some)) (ready.steps.each gaps (omega (arith, flat.high_some))))

  -- The k-th voxels between the rows, and those after them, lie in the run.
  between_in : (k n : ℕ) → k < gaps → n ≤ d → wide + k * d + n ≤ long
  between_in k n h l = omega (arith, flat.is, suc-mul k d, mul-le-mul_right {m = suc k} {n = gaps} d (omega arith))

  -- So those between the rows are ready.
  pub between_ready : {vs : List ℕ} {o i : ℕ} → RowsReady vs o i rows → RowsReady vs o (i + wide) (gaps_of rows)
  between_ready {vs} {o} {i} ready =
      record {
        steps = record {
          each = λ k h. rw (← add_assoc) at (part_ready (wide + k * d) 2 (between_in k 2 h (omega (arith, flat.apart))) (flat_ready ready));
          last = omega (arith, ready.steps.last, long_at_most wide d rows.high ready.steps.apart (λ none. omega (arith, flat.high_some)));
          apart = omega (arith, flat.apart);
        };
        between = λ e k h.
            let past : i + (wide + k * d + 2) ≡ i + wide + k * d + 2 = omega arith in
            rw past at (part_good vs i long (wide + k * d + 2) 2 (omega (arith, between_in k 4 (omega arith) (omega arith))) (flat_good ready));
      }

  -- The run shows what the rows show, and what those between them do.
  pub flat_shown : (vs : List ℕ) (o i : ℕ) → row_shown vs o long i ≡ rows_shown vs o rows i + rows_shown vs o (gaps_of rows) (i + wide)
  unfolding row_shown rows_shown
  flat_shown vs o i =
      let all : gaps + 1 ≡ rows.high = omega (arith, flat.high_some) in
      rw flat.is (rw all at (flat_sum (shown_at vs o) wide 2 d flat.apart gaps i))

  module _ (block : Block) {between : List ℕ} (i : ℕ) (counted : RowsCounted block (replicate 6 0) between (i + wide) (gaps_of rows)) where
    -- So what lies between the rows is no more than the run,
    pub flat_within : Within between (λ (f : ℕ). row_shown block.voxels.now (offset_of block.strides f) long i)
    flat_within = record { all = counted.all; each = λ f h. omega (arith, counted_zeros counted f h, flat_shown block.voxels.now (offset_of block.strides f) i) }

    -- and the run less that is what the rows show.
    pub flat_counted : {was now : List ℕ} → RunCounted block between was now i long → RowsCounted block was now i rows
    flat_counted less = record { each = λ f h. omega (arith, less.each f h, counted_zeros counted f h, flat_shown block.voxels.now (offset_of block.strides f) i); all = less.all }
