-- Demand 3, carried to the call: from the contract of `greedy_quads` alone, what every call that answers 0 leaves, and what refusal 9 leaves.
use mathlib.Core.Bool.{false, ◌&&◌}
use mathlib.Core.List.{List, [], ◌∷◌, ◌++◌, map}
use mathlib.Core.Path.{◌≡◌, refl, ◌∙◌, ap}
use Prim.Native.Nat.{ℕ}
use native.Mathlib.Omega.{arith}
use lib.ListN.{length, take, drop, take-append-drop}
use contract.Lifetimes
use borrow.Fn.World
use borrow.Fn.Kinds
use denote.Triple.Clauses
use Rattle.geometry.specs.declared.quad.UnorientedQuad.{UnorientedQuad}
use Rattle.geometry.specs.declared.face.OrientedBlockFace.{OrientedBlockFace}
use Rattle.geometry.specs.Refusal.{accepted, Check, checked}
use Rattle.geometry.specs.Point.{Point}
use Rattle.geometry.specs.Axes.{bit}
use Rattle.geometry.specs.Lists.{how_many}
use Rattle.geometry.proofs.Lists.{each_all, each_up}
use Rattle.voxels.specs.Shape.{Field, field}
use Rattle.voxels.specs.Extent.{interior, inside}
use Rattle.voxels.specs.Visible.{visible}
use Rattle.voxels.specs.Checks.{greedy_checks}
use Rattle.voxels.proofs.Passed.{greedy_passed}
use Rattle.voxels.proofs.Numbered.{entry_number, greedy_never}
use Rattle.listing.specs.Listing.{Laid, lay}
use Rattle.listing.specs.Outcome.{mesh_answer, reported, listed_after}
use Rattle.listing.specs.Cut.{groups_in}
use Rattle.listing.proofs.Outcome.{entry_passed, entry_by_number, zero_reported}
use Rattle.listing.proofs.Cut.{matched_each, matched_first, first_joined, zero_groups, nine_place, nine_first}
use Rattle.rules.specs.Group.{contains}
use Rattle.rules.specs.Greedy.{greedy_group, greedy_groups, greedy_tests}
use Rattle.rules.specs.Demand.{covers, Consistent}
use Rattle.rules.specs.Drawn.{GroupDrawn}
use Rattle.rules.proofs.Counts.{how_many_append}
use Rattle.rules.proofs.Demand.{greedy_cover, greedy_areas, greedy_tests_lem, greedy_uniform}
use Rattle.rules.proofs.Drawn.{greedy_drawn}
use Rattle.greedy.specs.Greedy.{Listed, listed, quad_numbers, numbers_of, listed_groups, GreedyAnswer, greedy_answer, GreedyOutcome, outcome, greedy_from, greedy_quads}
use Rattle.greedy.specs.Call.{quad_from, GroupMeshed, TestsBounded, CallHolds, PartMeshed, NineHolds}
use Rattle.greedy.proofs.Outcome.{numbers_length}
use Rattle.voxels.specs.declared.extent.Extent.{Extent}
use Rattle.geometry.specs.Answers.{meaning}
use Rattle.greedy.specs.contracts.greedy_quads
use Rattle.greedy.proofs.greedy_quads.Kinds as greedy-quads-kinds
use Rattle.greedy.proofs.greedy_quads.Reads as greedy-quads

-- A quad is read back from its numbers.
quad_back : (l : Listed) (rest : List ℕ) → quad_from (numbers_of l ++ rest) ≡ l.quad
unfolding quad_from
quad_back l rest = refl

-- A quad that is listed is the quad.
listed_back : (l : List UnorientedQuad) → map (λ (a : Listed). a.quad) (map listed l) ≡ l
listed_back [] = refl
listed_back (q ∷ l) = ap (λ (m : List UnorientedQuad). q ∷ m) (listed_back l)

module _ (inner : Extent) (v : Field) where
  -- The groups that are listed are the rule's.
  groups_back : (faces : List OrientedBlockFace) → map (map (λ (a : Listed). a.quad)) (listed_groups inner v faces) ≡ greedy_groups inner v faces
  unfolding listed_groups greedy_groups
  groups_back [] = refl
  groups_back (f ∷ faces) = rw (listed_back (greedy_group inner v f).quads, groups_back faces)

  -- Part of a group is disjoint and shows only visible voxels.
  part_consistent : (f : OrientedBlockFace) (m : ℕ) → Consistent f v inner (take m (greedy_group inner v f).quads)
  unfolding covers
  part_consistent f m p =
      let quads : List UnorientedQuad = (greedy_group inner v f).quads in
      let sum = how_many_append (λ (q : UnorientedQuad). contains f q p) (take m quads) (drop m quads) in
      let whole : how_many (λ (q : UnorientedQuad). contains f q p) (take m quads ++ drop m quads) ≡ bit (inside inner p && visible f v p) = rw (take-append-drop m quads) (greedy_cover f v inner p) in
      omega arith

module _ (voxels : List ℕ) (shape min max : Point) (faces : List OrientedBlockFace) (bytes was : List ℕ) (r : GreedyAnswer) (bytes' out : List ℕ)
    (promised : outcome r bytes' out ≡ greedy_quads voxels shape min max faces bytes was) where
  abbrev inner : Extent
  inner = interior min max

  abbrev v : Field
  v = field shape voxels

  abbrev checks : List Check
  checks = greedy_checks voxels shape min max faces (length bytes)

  abbrev groups : List (List Listed)
  groups = listed_groups inner v faces

  -- An answer whose number no entry gives comes from an accepted entry,
  passed : (m : ℕ) → r.mesh.refusal ≡ m → entry_number m ≡ false → checked checks ≡ accepted tt
  unfolding greedy_quads greedy_from listed_after
  passed m is other = entry_by_number (checked checks) (lay quad_numbers numbers_of groups was).answer (ap (λ (o : GreedyOutcome). o.mesh.answer) promised) m is (greedy_never voxels shape min max faces (length bytes) m other)

  -- and then the call leaves what laying the groups leaves.
  module _ (entered : checked checks ≡ accepted tt) where
    abbrev laid : Laid
    laid = lay quad_numbers numbers_of groups was

    laid_is : listed_after (checked checks) quad_numbers numbers_of groups was ≡ laid
    laid_is = entry_passed quad_numbers numbers_of groups was entered

    answers : r.mesh ≡ mesh_answer laid.answer
    unfolding greedy_quads greedy_from
    answers = ap (λ (o : GreedyOutcome). o.mesh.answer) promised ∙ ap (λ (l : Laid). mesh_answer l.answer) laid_is

    leaves : out ≡ laid.out
    unfolding greedy_quads greedy_from
    leaves = ap (λ (o : GreedyOutcome). o.mesh.out) promised ∙ ap (λ (l : Laid). l.out) laid_is

    tests_are : r.tests ≡ reported laid.answer (greedy_tests inner v faces)
    unfolding greedy_quads greedy_from
    tests_are = ap (λ (o : GreedyOutcome). o.tests) promised ∙ ap (λ (l : Laid). reported l.answer (greedy_tests inner v faces)) laid_is

  -- The groups that the counts of an accepted call cut out of its output are the rule's: what holds of every greedy group reaches the call by this.
  pub outcome_groups : r.mesh.refusal ≡ 0 → groups_in quad_numbers quad_from r.mesh.counts out ≡ greedy_groups inner v faces
  outcome_groups is =
      let entered = passed 0 is refl in
      zero_groups quad_numbers numbers_of numbers_length quad_from (λ (a : Listed). a.quad) quad_back groups was (answers entered) (leaves entered) is ∙ groups_back inner v faces

  -- Every call that answers 0 has demand 3.
  pub outcome_holds : r.mesh.refusal ≡ 0 → CallHolds voxels shape min max faces r out
  unfolding greedy_groups
  outcome_holds is =
      let entered = passed 0 is refl in
      let parts = (greedy_passed voxels shape min max faces (length bytes) entered).0 in
      record {
        groups = rw (outcome_groups is)
            (matched_each (GroupMeshed v inner) (λ (f : OrientedBlockFace). (greedy_group inner v f).quads) faces
            (each_up (GroupDrawn inner v) (λ (f : OrientedBlockFace). GroupMeshed v inner f (greedy_group inner v f).quads)
            (λ f d. record { cover = greedy_cover f v inner; areas = greedy_areas f v inner; uniform = greedy_uniform f v inner; drawn = d }) faces
            (greedy_drawn shape (length voxels) min max parts.bounds v faces parts.signs)));
        tests = tests_are entered ∙ zero_reported quad_numbers numbers_of groups was (answers entered) is _;
        bounds = each_all (TestsBounded v inner) (λ f. greedy_tests_lem f v inner) faces;
      }

  -- And what refusal 9 leaves.
  pub outcome_nine : r.mesh.refusal ≡ 9 → NineHolds voxels shape min max faces r out
  unfolding greedy_groups
  outcome_nine is =
      let entered = passed 9 is refl in
      let first = rw (groups_back inner v faces) at (nine_first quad_numbers numbers_of numbers_length quad_from (λ (a : Listed). a.quad) quad_back groups was (answers entered) (leaves entered) is) in
      record {
        place = nine_place quad_numbers numbers_of numbers_length quad_from (λ (a : Listed). a.quad) quad_back groups was (answers entered) (leaves entered) is;
        first = first;
        parts = first ∙ first_joined r.mesh.place (greedy_groups inner v faces);
        disjoint = matched_first (PartMeshed v inner) (λ (f : OrientedBlockFace). (greedy_group inner v f).quads) (λ f m. part_consistent inner v f m) r.mesh.place faces;
      }

-- ---- the contract

-- Of the contract of `greedy_quads` itself: its arguments are the voxels, the shape, min, max, the faces, the visited bytes and the output.
module _ (κs : Lifetimes.Lfts 3) (a : World.ArgsD greedy_quads.signature κs) (r : World.ResD greedy_quads.signature κs)
    (s : Clauses.AtExit (Kinds.ended_of 3 greedy-quads-kinds.ps greedy-quads-kinds.r) κs) (post : greedy-quads.Post κs a r s) where
  -- What it answers.
  abbrev answered : GreedyAnswer
  answered = greedy_answer (meaning r)

  -- A call that answers 0,
  pub call_holds : answered.mesh.refusal ≡ 0 → CallHolds a.0.now a.1.0 a.1.1.0 a.1.1.1.0 a.1.1.1.1.0 answered s.1.1.1.1.1.1.0.now
  call_holds = outcome_holds _ _ _ _ _ _ _ _ _ _ post

  -- and one that answers 9.
  pub nine_holds : answered.mesh.refusal ≡ 9 → NineHolds a.0.now a.1.0 a.1.1.0 a.1.1.1.0 a.1.1.1.1.0 answered s.1.1.1.1.1.1.0.now
  nine_holds = outcome_nine _ _ _ _ _ _ _ _ _ _ post
