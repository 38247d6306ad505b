-- Listing from six cursors, one for each face: a voxel's faces one after another, and the loops over voxels, rows and slices, of which what is listed and what is left make the whole. The cursors move as the counts do.
use mathlib.Core.List.{List, [], ◌∷◌, ◌++◌}
use mathlib.Core.Path.{◌≡◌, refl, sym, ◌∙◌, ap}
use Prim.Native.Nat.{ℕ, suc, ◌+◌, ◌-◌, ◌*◌, ◌≤◌, ◌<◌}
use native.Mathlib.Nat.{zero-mul}
use native.Mathlib.Omega.{arith}
use lib.ListN.{length, get_or, set, length-append}
use Rattle.geometry.specs.Point.{Point}
use Rattle.voxels.specs.Loop.{in_step, Stand, stand, on_by}
use Rattle.voxels.proofs.Loops.{stride_more, both_start, both_next, loop_none, sums_join, underway_whole}
use Rattle.listing.specs.Pushed.{Output, output, pushed, pushed_all}
use Rattle.listing.proofs.Pushed.{pushed_counts}
use Rattle.simple.specs.Unit.{unit_numbers, numbers_of}
use Rattle.simple.specs.List.{laid_run, laid_runs, Apart, RunsListed}
use Rattle.simple.proofs.Totals.{in_step_length}
use Rattle.simple.proofs.Sixes.{counted_none, counted_same, Growing, growing_start, growing_on, growing_still}
use Rattle.simple.proofs.Counting.{Counting, counting_start, counting_on, counting_done}
use Rattle.simple.proofs.Runs.{run_none, runs_same, runs_none, runs_append}

-- ---- a voxel's faces

-- The quads of the first so many faces are listed, and the others' cursors stand where they stood.
pub record Faced (was cursors : List ℕ) (quads : ℕ → List Point) (out now : List ℕ) (f : ℕ) : Type 0 where
  pub moved : Growing cursors now (λ (g : ℕ). length (quads g)) f
  pub is : out ≡ laid_runs was (λ (g : ℕ). get_or cursors g 0) quads f

module _ {was cursors : List ℕ} {quads : ℕ → List Point} where
  pub faces_start : length cursors ≡ 6 → Faced was cursors quads was cursors 0
  unfolding laid_runs
  faces_start six = record { moved = growing_start six; is = refl }

  module _ {out now : List ℕ} {f : ℕ} (l : Faced was cursors quads out now f) where
    -- A face more: its run is listed,
    runs_more : (out' : List ℕ) → out' ≡ laid_run out (get_or now f 0) (quads f) → out' ≡ laid_runs was (λ (g : ℕ). get_or cursors g 0) quads (f + 1)
    unfolding laid_runs
    runs_more out' e =
        let one : f + 1 ≡ suc f = omega arith in
        rw one (e ∙ rw (l.moved.left f (omega arith), l.is))

    -- which changes nothing where it has no quad,
    pub faces_hidden : f < 6 → quads f ≡ [] → Faced was cursors quads out now (f + 1)
    faces_hidden h none =
        record {
          moved = growing_still l.moved h (ap length none);
          is = runs_more out (rw none (sym (run_none out (get_or now f 0))));
        }

    -- and writes the one that it has.
    pub faces_shown : f < 6 → (p : Point) → quads f ≡ p ∷ [] → {out' : List ℕ} {r : ℕ}
        → output out' r ≡ pushed unit_numbers numbers_of (output out (get_or now f 0)) p → Faced was cursors quads out' (set now f r) (f + 1)
    unfolding pushed_all laid_run
    faces_shown h p one {out'} {r} push =
        record {
          moved = growing_on l.moved h (ap (λ (s : Output). s.listed) push ∙ pushed_counts unit_numbers numbers_of (output out (get_or now f 0)) p ∙ ap (λ (q : List Point). get_or now f 0 + length q) (sym one));
          is = runs_more out' (rw one (ap (λ (s : Output). s.out) push));
        }

  -- Where no face has a quad all is as it was.
  pub faces_none : length cursors ≡ 6 → ((f : ℕ) → quads f ≡ []) → RunsListed was cursors quads was cursors
  faces_none six none = record { is = sym (runs_none 6 was _ _ (λ f b. none f)); moved = counted_none _ six (λ f. ap length (none f)) }

-- ---- a loop that lists

-- A loop, k of n done: the cursors moved by what is listed, and what is listed and what is left make the whole.
pub record Listing (d : ℕ) (g : ℕ → ℕ → ℕ → List Point) (size : ℕ → ℕ → ℕ) (a i n : ℕ) (out₀ cursors₀ out cursors : List ℕ) (k : ℕ) : Type 0 where
  pub moved : Counting cursors₀ cursors size d i n k
  pub whole : laid_runs out (λ (f : ℕ). get_or cursors f 0) (λ (f : ℕ). in_step d (g f) (a + k) (i + k * d) (n - k)) 6
      ≡ laid_runs out₀ (λ (f : ℕ). get_or cursors₀ f 0) (λ (f : ℕ). in_step d (g f) a i n) 6

module _ {d : ℕ} {g : ℕ → ℕ → ℕ → List Point} {size : ℕ → ℕ → ℕ} {a i n : ℕ} {out₀ cursors₀ : List ℕ} where
  pub runs_start : length cursors₀ ≡ 6 → Listing d g size a i n out₀ cursors₀ out₀ cursors₀ 0
  runs_start six =
      let first : i + 0 * d ≡ i = omega (arith, zero-mul d) in
      record {
        moved = counting_start six;
        whole = rw first (runs_same 6 out₀ _ _ _ _ (λ f h. refl) (λ f h. both_start [] ◌++◌ d (λ (p : Stand). g f p.coordinate p.index) a i n));
      }

  module _ {out cursors : List ℕ} {k : ℕ} (l : Listing d g size a i n out₀ cursors₀ out cursors k) (sized : (f a i : ℕ) → length (g f a i) ≡ size f i) where
    module _ (h : k < n) {j : ℕ} (at : j ≡ i + k * d) where
      -- What is left is the next turn's, and then the rest's.
      left_next : (f : ℕ) → in_step d (g f) (a + k) (i + k * d) (n - k) ≡ g f (a + k) j ++ in_step d (g f) (a + (k + 1)) (i + (k + 1) * d) (n - (k + 1))
      left_next f =
          let next : i + k * d + d ≡ i + (k + 1) * d = omega (arith, stride_more k d) in
          rw (at, ← next) (both_next [] ◌++◌ d (λ (p : Stand). g f p.coordinate p.index) a (i + k * d) k n h)

      module _ (apart : Apart cursors₀ (λ (f : ℕ). in_step d (g f) a i n)) where
        -- What is left of each run ends before the next run's rest begins,
        left_apart : (f : ℕ) → suc f < 6 → get_or cursors f 0 + length (g f (a + k) j) + length (in_step d (g f) (a + (k + 1)) (i + (k + 1) * d) (n - (k + 1))) ≤ get_or cursors (suc f) 0
        left_apart f b =
            omega (
              arith,
              apart f b,
              l.moved.so_far.each f (omega arith),
              l.moved.so_far.each (suc f) b,
              underway_whole sums_join (size f) l.moved.at,
              in_step_length d (g f) (size f) (sized f) n a i,
              in_step_length d (g f) (size f) (sized f) (n - k) (a + k) (i + k * d),
              ap length (left_next f),
              length-append (g f (a + k) j) (in_step d (g f) (a + (k + 1)) (i + (k + 1) * d) (n - (k + 1))),
            )

        -- and so does the next turn's part of it.
        pub runs_apart : Apart cursors (λ (f : ℕ). g f (a + k) j)
        runs_apart f b = omega (arith, left_apart f b)

        pub runs_on : {out' cursors' : List ℕ} → RunsListed out cursors (λ (f : ℕ). g f (a + k) j) out' cursors' → Listing d g size a i n out₀ cursors₀ out' cursors' (k + 1)
        runs_on {out'} {cursors'} made =
            let first : ℕ → List Point = λ f. g f (a + k) j in
            let rest : ℕ → List Point = λ f. in_step d (g f) (a + (k + 1)) (i + (k + 1) * d) (n - (k + 1)) in
            record {
              moved = counting_on l.moved h at (counted_same made.moved (λ f. sized f (a + k) j));
              whole =
                  ap (λ (o : List ℕ). laid_runs o (λ (f : ℕ). get_or cursors' f 0) rest 6) made.is
                  ∙ runs_same 6 _ _ (λ (f : ℕ). get_or cursors f 0 + length (first f)) rest rest made.moved.each (λ f b. refl)
                  ∙ runs_append 6 out (λ (f : ℕ). get_or cursors f 0) first rest left_apart
                  ∙ runs_same 6 out _ (λ (f : ℕ). get_or cursors f 0) _ _ (λ f b. refl) (λ f b. sym (left_next f))
                  ∙ l.whole;
            }

    -- At the end nothing is left.
    pub runs_done : n ≤ k → RunsListed out₀ cursors₀ (λ (f : ℕ). in_step d (g f) a i n) out cursors
    runs_done h =
        record {
          is = sym (runs_none 6 out _ _ (λ f b. loop_none [] ◌++◌ (on_by d) (λ (p : Stand). g f p.coordinate p.index) (stand (a + k) (i + k * d)) k n h)) ∙ l.whole;
          moved = counted_same (counting_done l.moved h) (λ f. sym (in_step_length d (g f) (size f) (sized f) n a i));
        }
