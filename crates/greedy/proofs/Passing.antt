-- Voxels that need no mesh, a stride apart: a loop passes them one by one, and a scan only tests them.
use Rattle.std.proofs.Common.{◌≤◌, ◌≡◌, ◌∙◌, ap, sym, ℕ, zero, suc, ◌+◌, ◌-◌, ◌*◌, ◌<◌, List, true, false, arith, add-zero, add-mul}
use Rattle.geometry.specs.Point.{Point}
use Rattle.voxels.specs.Loop.{steps}
use Rattle.voxels.proofs.Loops.{Underway}
use Rattle.greedy.specs.Walks.{needs_at, WalkReady, Idle}
use Rattle.greedy.specs.Marks.{Stepping}
use Rattle.greedy.specs.Scans.{Scanned, scanned_at, SpotReady, voxel_tests, progress}
use Rattle.greedy.proofs.Steps.{steps_none, steps_next, steps_parts}
use Rattle.greedy.proofs.Rectangles.{spot_touches}
use Rattle.greedy.proofs.Scanning.{Scanning, scanned_idle}
use Rattle.greedy.specs.declared.Mesher.{Mesher}
use Rattle.greedy.specs.declared.face_scan.FaceScan.{FaceScan}

-- A loop that passes so many at once stands as many turns further on.
pub underway_past : {d i n k j : ℕ} → Underway d i n k j → (m : ℕ) → m ≤ n - k → Underway d i n (k + m) (j + m * d)
underway_past {d = d} {k = k} l m h = record { within = omega (arith, l.within); place = omega (arith, l.place, add-mul k m d) }

-- A turn leaves fewer, since it passes those voxels and one more.
pub fewer : (k m n : ℕ) → k + m < n → n - (k + m + 1) < n - k
fewer k m n h = omega arith

-- What is passed ends before the rest of the row does.
pub ahead : (k m n : ℕ) → k + m < n → m < n - k
ahead k m n h = omega arith

-- What is left of a row to scan can be tested, voxel by voxel.
pub rest_ready : {c : FaceScan} {spot : ℕ → Point} {vn mn d a i n : ℕ} (k : ℕ) → Stepping (λ (x i : ℕ). SpotReady vn mn c (spot x) i) d a i n → k < n → WalkReady vn mn c.strides.visibility_offset.0 (i + k * d) d (n - k)
rest_ready {c = c} {d = d} {i = i} {n = n} k row h =
    let left : k + (n - k) ≡ n = omega arith in
    let end : i + (k + (n - k)) * d ≡ i + n * d = rw left in
    let place : (m : ℕ) → i + (k + m) * d ≡ i + k * d + m * d = λ m. omega (arith, add-mul k m d) in
    record { each = λ m less. rw (place m) at (spot_touches c _ _ (row.each (k + m) (omega arith))); last = omega (arith, row.last, place (n - k)) }

-- After those that were passed there stands one that needs a mesh, unless the row ends there.
pub idle_ends : {vs marks : List ℕ} (i k : ℕ) {off d n m : ℕ} → Idle vs marks off (i + k * d) d (n - k) m → k + m < n → needs_at vs marks off (i + (k + m) * d) ≡ true
idle_ends i k {d = d} {n = n} {m = m} idle h =
    let place : i + k * d + m * d ≡ i + (k + m) * d = omega (arith, add-mul k m d) in
    rw place at (idle.stopped (ahead k m n h))

module _ (vs : List ℕ) (c : FaceScan) (spot : ℕ → Point) where
  abbrev scans : Scanned → ℕ → ℕ → Scanned
  scans s x j = scanned_at vs c s (spot x) j

  -- A scan that passes so many of them makes as many tests more, and nothing else.
  pub scan_idle : (s : Scanned) (d a i m : ℕ) → ((h : ℕ) → h < m → needs_at vs s.marks c.strides.visibility_offset.0 (i + h * d) ≡ false)
      → record { marks = s.marks; output = s.output; tests = s.tests + m } ≡ steps d scans s a i m
  scan_idle s d a i zero idle = rw add-zero (steps_none d scans s a i)
  scan_idle s d a i (suc m) idle =
      let on = scan_idle s d a i m (λ h less. idle h (omega arith)) in
      let next = steps_next d scans s a i m _ (record { marks = s.marks; output = s.output; tests = s.tests + m + 1 }) on (sym (scanned_idle vs c _ _ _ (idle m (omega arith)))) in
      let tests_are : s.tests + m + 1 ≡ s.tests + suc m = omega arith in
      let turns_are : m + 1 ≡ suc m = omega arith in
      rw (tests_are, turns_are) at next

-- A mesher that has passed so many of them stands as many turns further on.
pub idle_on : (c : FaceScan) (spot : ℕ → Point) {d a i : ℕ} {was now : Mesher} {k : ℕ} (m : ℕ) → Scanning (λ (voxels : List ℕ). scans voxels c spot) voxel_tests d a i was now k
    → ((h : ℕ) → h < m → needs_at now.block.voxels.now now.visited.now c.strides.visibility_offset.0 (i + k * d + h * d) ≡ false)
    → Scanning (λ (voxels : List ℕ). scans voxels c spot) voxel_tests d a i was (record { block = now.block; visited = now.visited; out = now.out; listed = now.listed; tests = now.tests + m }) (k + m)
idle_on c spot {d = d} {a = a} {i = i} {was = was} {now = now} {k = k} m l idle =
    let act : Scanned → ℕ → ℕ → Scanned = scans was.block.voxels.now c spot in
    let passed = scan_idle was.block.voxels.now c spot (progress now) d (a + k) (i + k * d) m (rw l.same.block at idle) in
    record {
      same = record { block = l.same.block; visited = l.same.visited; out = l.same.out; marks_long = l.same.marks_long; out_long = l.same.out_long };
      made = passed ∙ ap (λ (s : Scanned). steps d act s (a + k) (i + k * d) m) l.made ∙ sym (steps_parts d act (progress was) a i k m);
      few = omega (arith, l.few);
      bound = omega (arith, l.bound, add-mul k m voxel_tests);
    }
