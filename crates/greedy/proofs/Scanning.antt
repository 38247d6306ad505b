-- A face's scan by indices: what a scanned voxel leaves, and loops that scan, by what they have made so far.
use mathlib.Core.Bool.{true, false}
use mathlib.Core.List.{List}
use mathlib.Core.Path.{◌≡◌, refl, ◌∙◌}
use Prim.Native.Nat.{ℕ, ◌+◌, ◌*◌, ◌≤◌, ◌<◌}
use native.Mathlib.Omega.{arith}
use lib.ListN.{length}
use Rattle.geometry.specs.Point.{Point}
use Rattle.voxels.specs.Loop.{steps}
use Rattle.voxels.proofs.Loops.{stride_more}
use Rattle.listing.proofs.Pushed.{pushed_counts}
use Rattle.rules.specs.Group.{Pick, quad_of}
use Rattle.greedy.specs.Greedy.{listed, quad_numbers, numbers_of}
use Rattle.greedy.specs.Walks.{needs_at}
use Rattle.greedy.specs.Marks.{Stepping, mark_quad_at}
use Rattle.greedy.specs.Scans.{Scanned, listed_on, laid_by, laid_at, scanned_at, SpotReady, voxel_tests, Scans, QuadLaid, SameCall, progress}
use Rattle.greedy.proofs.Steps.{steps_none, steps_next}
use Rattle.greedy.specs.declared.Mesher.{Mesher}
use Rattle.greedy.proofs.Rectangles.{picked_at, picked_tests}
use Rattle.greedy.specs.declared.face_scan.FaceScan.{FaceScan}

-- A voxel that needs no mesh is only tested.
pub scanned_idle : (vs : List ℕ) (c : FaceScan) (s : Scanned) (p : Point) (i : ℕ) → needs_at vs s.marks c.strides.visibility_offset.0 i ≡ false
    → scanned_at vs c s p i ≡ record { marks = s.marks; output = s.output; tests = s.tests + 1 }
unfolding scanned_at
scanned_idle vs c s p i e = rw (e, scanned_at)

module _ (vs : List ℕ) (c : FaceScan) (p : Point) (i : ℕ) (s : Scanned) (few : s.output.listed ≤ s.tests) where
  -- A rectangle that was picked, marked and listed is laid.
  pub laid_made : {vn mn : ℕ} (q : Pick) (marks : List ℕ) (t : Scanned) → SpotReady vn mn c p i
      → q ≡ picked_at vs s.marks c p i
      → marks ≡ mark_quad_at c.strides.u_stride.0 q.width c.strides.v_stride.0 q.height s.marks i
      → t ≡ listed_on (record { marks = marks; output = s.output; tests = s.tests }) (quad_of p q)
      → QuadLaid vs c p i s (record { marks = t.marks; output = t.output; tests = t.tests + (1 + q.tests) })
  unfolding laid_at laid_by
  laid_made q marks t ready is marked push =
      let tests_are : s.tests + (1 + q.tests) ≡ s.tests + 1 + q.tests = omega arith in
      record {
        is = rw (push, tests_are, ← is, ← marked);
        few = rw push (omega (arith, pushed_counts quad_numbers numbers_of s.output (listed (quad_of p q))));
        bound = rw push (omega (arith, picked_tests vs s.marks c p i ready is));
      }

  -- Of a voxel that needs a mesh the rectangle is laid.
  pub scanned_laid : needs_at vs s.marks c.strides.visibility_offset.0 i ≡ true → {t : Scanned} → QuadLaid vs c p i s t → Scans (λ (s : Scanned). scanned_at vs c s p i) voxel_tests s t
  unfolding scanned_at
  scanned_laid e laid = record { is = rw (e, scanned_at) laid.is; few = laid.few; bound = laid.bound }

-- ---- a scan underway

-- A mesher is at its own call, and where it is still at that of another, which is at a third's, it is at the third's.
pub same_start : {m : Mesher} → SameCall m m
same_start = record { block = refl; visited = refl; out = refl; marks_long = refl; out_long = refl }

pub same_on : {was now then : Mesher} → SameCall was now → SameCall now then → SameCall was then
same_on s t = record { block = t.block ∙ s.block; visited = t.visited ∙ s.visited; out = t.out ∙ s.out; marks_long = t.marks_long ∙ s.marks_long; out_long = t.out_long ∙ s.out_long }

-- A loop that scans, k turns done: it is at the same call, it has made what the rule makes by then, no more quads than tests, and each turn took at most so many tests.
pub record Scanning (act : List ℕ → Scanned → ℕ → ℕ → Scanned) (most d a i : ℕ) (was now : Mesher) (k : ℕ) : Type 0 where
  pub same : SameCall was now
  pub made : progress now ≡ steps d (act was.block.voxels.now) (progress was) a i k
  pub few : now.listed ≤ now.tests
  pub bound : now.tests ≤ was.tests + k * most

module _ {act : List ℕ → Scanned → ℕ → ℕ → Scanned} {most d a i : ℕ} {was : Mesher} where
  pub scan_start : was.listed ≤ was.tests → Scanning act most d a i was was 0
  scan_start few = record { same = same_start; made = steps_none d (act was.block.voxels.now) (progress was) a i; few = few; bound = omega arith }

  module _ {now : Mesher} {k : ℕ} (l : Scanning act most d a i was now k) where
    -- What the loop asks for holds of the next turn, by the buffers as they are now.
    pub scan_asks : (Asked : ℕ → ℕ → ℕ → ℕ → Type 0) {n : ℕ} → Stepping (Asked (length was.block.voxels.now) (length was.visited.now)) d a i n → k < n
        → Asked (length now.block.voxels.now) (length now.visited.now) (a + k) (i + k * d)
    scan_asks Asked ready h = rw (l.same.block, l.same.marks_long) (ready.each k h)

    pub scan_on : {then : Mesher} → SameCall now then → Scans (λ (s : Scanned). act now.block.voxels.now s (a + k) (i + k * d)) most (progress now) (progress then)
        → Scanning act most d a i was then (k + 1)
    scan_on {then = then} same made =
        record {
          same = same_on l.same same;
          made = steps_next d (act was.block.voxels.now) (progress was) a i k (progress now) (progress then) l.made (rw l.same.block at made.is);
          few = made.few;
          bound = omega (arith, made.bound, l.bound, stride_more k most);
        }

    pub scan_done : {n : ℕ} → k ≡ n → Scans (λ (s : Scanned). steps d (act was.block.voxels.now) s a i n) (n * most) (progress was) (progress now)
    scan_done e = rw (← e) (record { is = l.made; few = l.few; bound = l.bound })
