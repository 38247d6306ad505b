-- A loop over the faces: the groups listed, their counts and the tests made so far are those of the faces so far.
use mathlib.Core.List.{List, [], ◌∷◌, ◌++◌, map}
use mathlib.Core.Path.{◌≡◌, refl, sym, ◌∙◌, ap}
use Prim.Native.Nat.{ℕ, ◌+◌, ◌-◌, ◌*◌, ◌≤◌, ◌<◌}
use native.Mathlib.Nat.{add-zero, zero-add, add_assoc}
use native.Mathlib.Omega.{arith}
use lib.IntN.{pos}
use lib.ListN.{length, get_or, take, set, replicate}
use lib.Seq.{take_all}
use Rattle.geometry.specs.declared.axis.AxisPermutation.TheVariants.{Xyz}
use Rattle.geometry.specs.declared.face.OrientedBlockFace.{OrientedBlockFace}
use Rattle.geometry.specs.Point.{Point}
use Rattle.voxels.specs.declared.extent.Extent.{Extent}
use Rattle.voxels.specs.Shape.{size, Field, field}
use Rattle.voxels.specs.Entered.{most_voxels}
use Rattle.listing.specs.Listing.{joined}
use Rattle.listing.specs.Pushed.{output, pushed_all}
use Rattle.listing.proofs.Groups.{take_next, all_after, groups_next, counts_next, groups_done, counts_done}
use Rattle.rules.specs.Greedy.{greedy_group, greedy_tests}
use Rattle.greedy.specs.Greedy.{Listed, listed_group, listed_groups, quad_numbers, numbers_of}
use Rattle.greedy.specs.Scans.{progress, SameCall, voxel_tests, SameFrom, FaceMeshed, FacesMeshed}
use Rattle.greedy.proofs.Scanning.{same_start, same_on}
use Rattle.greedy.specs.declared.Mesher.{Mesher}
use Rattle.greedy.specs.declared.Meshed.{Meshed}

-- What stands past the end of a list of faces.
abbrev pub no_face : OrientedBlockFace
no_face = record { n_sign = pos 0; permutation = Xyz }

-- ---- the tests

module _ (inner : Extent) (v : Field) where
  tests_more : (l : List OrientedBlockFace) (f : OrientedBlockFace) → greedy_tests inner v (l ++ (f ∷ [])) ≡ greedy_tests inner v l + (greedy_group inner v f).tests
  unfolding greedy_tests
  tests_more [] f = add-zero (greedy_group inner v f).tests ∙ sym (zero-add (greedy_group inner v f).tests)
  tests_more (g ∷ l) f = rw (tests_more l f) (sym (add_assoc (greedy_group inner v g).tests (greedy_tests inner v l) (greedy_group inner v f).tests))

  module _ (fs : List OrientedBlockFace) where
    -- After one more face its tests are added,
    pub tests_next : (d : OrientedBlockFace) (k : ℕ) {t t' : ℕ} → k < length fs → t ≡ greedy_tests inner v (take k fs) → t' ≡ t + (greedy_group inner v (get_or fs k d)).tests → t' ≡ greedy_tests inner v (take (k + 1) fs)
    tests_next d k h before now = rw (take_next fs k d h, tests_more (take k fs) (get_or fs k d), now, before)

    -- and after all of them the sum is whole.
    pub tests_done : (k : ℕ) {t : ℕ} → length fs ≤ k → t ≡ greedy_tests inner v (take k fs) → t ≡ greedy_tests inner v fs
    tests_done k h e = rw (take_all k fs h) at e

-- ---- the loop

-- The field that a mesher's block makes, and the quads that a face lists of it.
abbrev field_of : Mesher → Field
field_of m = field m.block.voxels_shape m.block.voxels.now

abbrev group_of : Mesher → OrientedBlockFace → List Listed
group_of m f = listed_group m.block.interior (field_of m) f

-- k of six faces are meshed: the mesher is at the same call, and what it has listed, counted and tested are those faces' groups.
pub record SixMeshing (faces : List OrientedBlockFace) (was now : Mesher) (counts : List ℕ) (k : ℕ) : Type 0 where
  pub six : length faces ≡ 6
  pub same : SameCall was now
  pub few : now.listed ≤ now.tests
  pub bound : now.tests ≤ k * (most_voxels * voxel_tests)
  pub lists : output now.out.now now.listed ≡ pushed_all quad_numbers numbers_of (output was.out.now 0) (joined (map (group_of was) (take k faces)))
  pub counted : counts ≡ map length (map (group_of was) (take k faces)) ++ replicate (6 - k) 0
  pub tested : now.tests ≡ greedy_tests was.block.interior (field_of was) (take k faces)
  pub rest : SameFrom (size was.block.voxels_shape) was.visited.now now.visited.now

module _ {faces : List OrientedBlockFace} {was : Mesher} where
  pub six_start : length faces ≡ 6 → was.listed ≡ 0 → was.tests ≡ 0 → SixMeshing faces was was (replicate 6 0) 0
  unfolding joined pushed_all greedy_tests
  six_start six none untested =
      record { six = six; same = same_start; few = omega arith; bound = omega arith; lists = rw none; counted = refl; tested = untested; rest = refl }

  module _ {now : Mesher} {counts : List ℕ} {k : ℕ} (l : SixMeshing faces was now counts k) where
    module _ (then : Mesher) (made : FaceMeshed now.block.voxels.now now.block.voxels_shape now.block.interior (get_or faces k no_face) (progress now) (progress then)) where
      -- It is the face's group of the block that the call began with.
      group : FaceMeshed was.block.voxels.now was.block.voxels_shape was.block.interior (get_or faces k no_face) (progress now) (progress then)
      group = rw l.same.block at made

      -- A face lists as many quads more as its group has,
      pub six_more : then.listed ≡ now.listed + length (group_of was (get_or faces k no_face))
      six_more = all_after quad_numbers numbers_of now.out.now then.out.now now.listed then.listed _ group.is

      -- and then one more is meshed.
      pub six_on : k < 6 → SameCall now then → SixMeshing faces was then (set counts k (then.listed - now.listed)) (k + 1)
      six_on h same =
          record {
            six = l.six;
            same = same_on l.same same;
            few = group.few;
            bound = omega (arith, group.bound, l.bound);
            lists = groups_next quad_numbers numbers_of (group_of was) faces no_face k was.out.now (omega (arith, l.six)) l.lists group.is;
            counted = counts_next quad_numbers numbers_of (group_of was) faces no_face k 6 counts _ l.six h l.counted (omega (arith, six_more));
            tested = tests_next was.block.interior (field_of was) faces no_face k (omega (arith, l.six)) l.tested group.tests_are;
            rest = group.rest ∙ l.rest;
          }

    pub six_done : 6 ≤ k → FacesMeshed was.block.voxels.now was.block.voxels_shape was.block.interior faces was.visited.now was.out.now now.visited.now now.out.now (record { listed = now.listed; tests = now.tests; counts = counts })
    unfolding listed_groups
    six_done h =
        let all : length faces ≤ k = omega (arith, l.six) in
        record {
          made = record {
            is = l.lists ∙ ap (λ (g : List (List Listed)). pushed_all quad_numbers numbers_of (output was.out.now 0) (joined g)) (groups_done (group_of was) faces k all);
            each = counts_done (group_of was) faces k 6 counts l.six h l.counted;
          };
          tests_are = tests_done was.block.interior (field_of was) faces k all l.tested;
          rest = l.rest;
        }

-- The same of buffers that are what those of a mesher were at its end.
pub faces_left : {vs : List ℕ} {shape : Point} {inner : Extent} {faces : List OrientedBlockFace} {marks₀ out₀ marks out : List ℕ} {r : Meshed} → FacesMeshed vs shape inner faces marks₀ out₀ marks out r
    → {marks' out' : List ℕ} → marks' ≡ marks → out' ≡ out → FacesMeshed vs shape inner faces marks₀ out₀ marks' out' r
faces_left h e e' = rw (e, e') h
