-- From the faces' groups to the whole outcome: the tests summed, what laying the groups answers, what a refused entry leaves, and what an accepted one is known to be and leaves.
use mathlib.Core.List.{List}
use mathlib.Core.Path.{◌≡◌, refl, sym, ◌∙◌, ap}
use Prim.Native.Nat.{ℕ}
use native.Mathlib.Omega.{arith}
use lib.ListN.{length, replicate}
use borrow.Author.Tests.{ltb-false}
use Rattle.geometry.specs.declared.face.OrientedBlockFace.{OrientedBlockFace}
use Rattle.geometry.specs.Point.{Point}
use Rattle.geometry.specs.Refusal.{Answer, accepted, refused, Check, answer}
use Rattle.geometry.proofs.Refusals.{accepts_value, accepts_checked, first_passes, answer_refused}
use Rattle.voxels.specs.Shape.{size, Field, field}
use Rattle.voxels.specs.Checks.{greedy_checks}
use Rattle.voxels.specs.Answers.{entry}
use Rattle.voxels.proofs.Passed.{greedy_passed}
use Rattle.voxels.proofs.Held.{bounds_held}
use Rattle.voxels.proofs.Entered.{interior_is}
use Rattle.listing.specs.Listing.{overwritten, capacity, too_many, lay}
use Rattle.listing.specs.Outcome.{mesh_answer, reported, listed_after, MeshOutcome}
use Rattle.listing.proofs.Groups.{laid_answer}
use Rattle.listing.proofs.Outcome.{made_outcome}
use Rattle.rules.specs.Greedy.{greedy_tests}
use Rattle.greedy.specs.Greedy.{Listed, quad_numbers, numbers_of, listed_groups, GreedyOutcome, greedy_answer, outcome, greedy_from, greedy_quads}
use Rattle.greedy.specs.Scans.{Accepted, FacesMeshed}
use Rattle.greedy.proofs.Cleared.{cleared_again}
use Rattle.greedy.specs.declared.Meshed.{Meshed}
use Rattle.voxels.specs.declared.extent.Extent.{Extent}
use Rattle.voxels.specs.declared.bounds.Entry.{Entry}

-- A listed quad has so many numbers.
pub numbers_length : (l : Listed) → length (numbers_of l) ≡ quad_numbers
numbers_length l = refl

-- ---- the answer

module _ {vs : List ℕ} {shape : Point} {inner : Extent} {faces : List OrientedBlockFace} {was_marks was marks out : List ℕ} {r : Meshed} (made : FacesMeshed vs shape inner faces was_marks was marks out r)
    {n : ℕ} (all : n ≡ size shape) {room : ℕ} (is : room ≡ capacity quad_numbers (length was))
    {bytes : List ℕ} (cleared : bytes ≡ overwritten (replicate n 0) marks) where
  abbrev v : Field
  v = field shape vs

  abbrev tests : ℕ
  tests = greedy_tests inner v faces

  abbrev laid : Answer (List ℕ)
  laid = (lay quad_numbers numbers_of (listed_groups inner v faces) was).answer

  -- What the groups leave is what meshing leaves, once it answers by their number, and reports what is reported with that.
  made_leaves : (x : Answer (List ℕ)) → x ≡ answer (too_many r.listed room) r.counts → {t : ℕ} → t ≡ reported x tests
      → outcome (record { mesh = mesh_answer x; tests = t }) bytes out ≡ greedy_from (accepted tt) n inner v faces was_marks was
  unfolding greedy_from listed_after
  made_leaves x told e =
      let left = made_outcome quad_numbers numbers_of (omega arith) numbers_length made.made is (ap mesh_answer told) in
      let same = told ∙ laid_answer quad_numbers numbers_of (omega arith) numbers_length made.made is in
      rw (e ∙ ap (λ (a : Answer (List ℕ)). reported a tests) same, cleared, cleared_again n marks was_marks (rw (← all) at made.rest))
      (ap (λ (o : MeshOutcome). record { mesh = o; tests = reported laid tests; visited_bytes = overwritten (replicate n 0) was_marks }) left)

  -- More than fit are refused, and no tests are reported,
  pub many_left : {m p : ℕ} → refused m p ≡ answer (too_many r.listed room) r.counts
      → outcome (record { mesh = mesh_answer (refused m p); tests = 0 }) bytes out ≡ greedy_from (accepted tt) n inner v faces was_marks was
  many_left told = made_leaves (refused _ _) told refl

  -- and where all fit they are.
  pub all_left : {counts : List ℕ} → accepted counts ≡ answer (too_many r.listed room) r.counts
      → outcome (record { mesh = mesh_answer (accepted counts); tests = r.tests }) bytes out ≡ greedy_from (accepted tt) n inner v faces was_marks was
  all_left told = made_leaves (accepted _) told made.tests_are

-- ---- the entry

module _ (voxels : List ℕ) (shape min max : Point) (faces : List OrientedBlockFace) (bytes : List ℕ) where
  abbrev checks : List Check
  checks = greedy_checks voxels shape min max faces (length bytes)

  -- A refused entry leaves both buffers as they were.
  pub refused_outcome : (out : List ℕ) {n p : ℕ} → answer checks (entry shape min max) ≡ refused n p
      → outcome (greedy_answer (refused n p)) bytes out ≡ greedy_quads voxels shape min max faces bytes out
  unfolding greedy_quads greedy_from listed_after
  refused_outcome out e = rw (answer_refused checks (entry shape min max) e)

  module _ (e : Entry) (enters : answer checks (entry shape min max) ≡ accepted e) where
    -- An accepted entry gives the number of voxels and the interior of a box that passed the checks.
    pub size_is : e.size ≡ size shape
    size_is = ap (λ (e : Entry). e.size) (sym (accepts_value checks (entry shape min max) enters))

    pub is_accepted : Accepted (length voxels) (length bytes) shape e.interior
    is_accepted =
        let passed = greedy_passed voxels shape min max faces (length bytes) (accepts_checked checks (entry shape min max) enters) in
        record {
          entered = record { min = min; max = max; is = interior_is checks shape min max enters; held = bounds_held shape (length voxels) min max passed.0.bounds };
          marked = ltb-false (length bytes) (size shape) (first_passes _ _ _ passed.1);
        }

    -- It leaves what meshing leaves.
    pub entered_outcome : (n : ℕ) → n ≡ e.size → (out : List ℕ) {o : GreedyOutcome}
        → o ≡ greedy_from (accepted tt) n e.interior (field shape voxels) faces bytes out → o ≡ greedy_quads voxels shape min max faces bytes out
    unfolding greedy_quads
    entered_outcome n is out h = h ∙ rw (accepts_checked checks (entry shape min max) enters, interior_is checks shape min max enters, is, size_is)
