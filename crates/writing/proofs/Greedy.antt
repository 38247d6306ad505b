-- What a call of greedy meshing that answers 0 leaves is not refused by 24, 6, 12 or 13, from the contract of `greedy_quads` alone. 24: its output was long enough. 6: its entry asked for the signs. 12: every quad that it lists is within the
-- limits. 13: a voxel that is scanned begins one quad at most, and no shape has more than 16,777,216 voxels.
use mathlib.Core.List.{List, [], ◌∷◌, map}
use mathlib.Core.Path.{◌≡◌, refl, ◌∙◌, ap}
use Prim.Native.Nat.{ℕ, ◌+◌, ◌*◌, ◌≤◌}
use native.Mathlib.Nat.{le_of_eq, mul-le-mul, suc-mul, le-div_iff_mul-le}
use native.Mathlib.Omega.{arith}
use lib.Dec.{ltb}
use lib.ListN.{length, take, drop, length-append, length-drop, length-map}
use contract.Lifetimes
use borrow.Author.Tests.{ltb-true, ltb-false}
use borrow.Fn.World
use borrow.Fn.Kinds
use denote.Triple.Clauses
use Rattle.geometry.specs.declared.axis.Axis.TheVariants.{X, Y, Z}
use Rattle.geometry.specs.declared.quad.UnorientedQuad.{UnorientedQuad}
use Rattle.geometry.specs.declared.face.OrientedBlockFace.{OrientedBlockFace}
use Rattle.geometry.specs.Refusal.{Answer, accepted, checked}
use Rattle.geometry.specs.Point.{Point, along}
use Rattle.geometry.specs.Axes.{n_axis}
use Rattle.geometry.specs.Statements.{Drawn}
use Rattle.geometry.specs.Lists.{Each}
use Rattle.geometry.proofs.Refusals.{split}
use Rattle.geometry.proofs.Lists.{each_append}
use Rattle.voxels.specs.declared.extent.Extent.{Extent}
use Rattle.voxels.specs.Shape.{size, Field, field}
use Rattle.voxels.specs.Extent.{interior}
use Rattle.voxels.specs.Checks.{greedy_checks}
use Rattle.voxels.specs.Entered.{most_voxels, Held}
use Rattle.voxels.proofs.Passed.{greedy_passed}
use Rattle.voxels.proofs.Held.{bounds_held}
use Rattle.voxels.proofs.Numbered.{greedy_never}
use Rattle.listing.specs.Listing.{joined, overwritten, capacity, Laid, lay}
use Rattle.listing.specs.Outcome as listing
use Rattle.listing.specs.Outcome.{mesh_answer, listed_after, MeshOutcome, listed_outcome}
use Rattle.listing.specs.Cut.{Matched}
use Rattle.listing.proofs.Pushed.{lay_many, lay_fits}
use Rattle.listing.proofs.Outcome.{entry_passed, entry_by_number}
use Rattle.rules.specs.Group.{passes, Choice, State, scanned, swept, sweep, fresh, group}
use Rattle.rules.specs.Merger.{voxel_merger}
use Rattle.geometry.specs.Answers.{meaning}
use Rattle.rules.specs.Greedy.{greedy_group}
use Rattle.rules.specs.Demand.{points}
use Rattle.rules.proofs.Counts.{span, scan_length}
use Rattle.rules.proofs.Sweep.{sweep_length}
use Rattle.greedy.specs.Greedy.{Listed, listed, quad_numbers, numbers_of, listed_group, listed_groups, GreedyAnswer, greedy_answer, GreedyOutcome, outcome, greedy_from, greedy_quads}
use Rattle.greedy.specs.Call.{GroupMeshed}
use Rattle.greedy.proofs.Call.{outcome_holds}
use Rattle.greedy.specs.contracts.greedy_quads
use Rattle.greedy.proofs.greedy_quads.Kinds as greedy-quads-kinds
use Rattle.greedy.proofs.greedy_quads.Reads as greedy-quads
use Rattle.writing.specs.Handed.{on_face, oriented, handed, total}
use Rattle.writing.specs.Statements.{WithinQuad, ListedPasses}
use Rattle.writing.proofs.Rest.{group_held}
use Rattle.writing.proofs.Ordered.{passed_order}

-- ---- how many quads there are

-- A voxel that is scanned begins one quad at most, whatever picks the rectangles,
module _ (f : OrientedBlockFace) (v : Field) (e : Extent) (choice : Choice) where
  scanned_few : (s : State) (p : Point) → length (scanned f v e choice s p).quads ≤ length s.quads + 1
  unfolding scanned
  scanned_few s p = split (passes f v s.quads p) (λ t. rw (t, scanned) (le_of_eq (length-append s.quads _))) (λ n. rw (n, scanned) (omega arith))

  swept_few : (s : State) (ps : List Point) → length (swept f v e choice s ps).quads ≤ length s.quads + length ps
  unfolding swept
  swept_few s [] = omega arith
  swept_few s (p ∷ ps) = omega (arith, scanned_few s p, swept_few (scanned f v e choice s p) ps)

-- so that a group has no more quads than the interior has points,
group_few : (f : OrientedBlockFace) (v : Field) (inner : Extent) → length (greedy_group inner v f).quads ≤ points inner
unfolding greedy_group group
group_few f v inner = omega (arith, swept_few f v inner (voxel_merger f v) fresh (sweep (n_axis f) inner), sweep_length f inner)

-- which are no more than the shape's voxels;
points_few : (shape : Point) (lent : ℕ) (min max : Point) → Held shape lent min max → points (interior min max) ≤ most_voxels
unfolding size along
points_few shape lent min max h =
    let inner : Extent = interior min max in
    let x : span inner X ≤ shape.x = omega (arith, h.within X) in
    let y : span inner Y ≤ shape.y = omega (arith, h.within Y) in
    let z : span inner Z ≤ shape.z = omega (arith, h.within Z) in
    omega (arith, scan_length inner, mul-le-mul x (mul-le-mul y z), h.small)

-- and so many for each face.
listed_few : (inner : Extent) (v : Field) (faces : List OrientedBlockFace) → length (joined (listed_groups inner v faces)) ≤ length faces * points inner
unfolding listed_groups joined
listed_few inner v [] = omega arith
listed_few inner v (f ∷ faces) =
    omega (
      arith,
      length-append (listed_group inner v f) (joined (listed_groups inner v faces)),
      length-map (greedy_group inner v f).quads listed,
      group_few f v inner,
      listed_few inner v faces,
      suc-mul (length faces) (points inner),
    )

-- The lists' lengths sum to that of all of them.
total_joined : {A : Type 0} (ls : List (List A)) → total (map length ls) ≡ length (joined ls)
unfolding total joined
total_joined [] = refl
total_joined (l ∷ ls) = omega (arith, length-append l (joined ls), total_joined ls)

-- ---- that each is within the limits

-- A quad that can be drawn is within the limits,
drawn_within : (f : OrientedBlockFace) (quads : List UnorientedQuad) → Each (Drawn f) quads → Each WithinQuad (on_face f quads)
unfolding Each
drawn_within f [] h = tt
drawn_within f (q ∷ quads) h = (h.0.within_limits_lem, drawn_within f quads h.1)

-- and so is each of a mesh whose groups are meshed.
meshed_within : (v : Field) (inner : Extent) (faces : List OrientedBlockFace) (groups : List (List UnorientedQuad)) → Matched (GroupMeshed v inner) faces groups → Each WithinQuad (oriented faces groups)
unfolding Matched oriented Each
meshed_within v inner [] groups h = tt
meshed_within v inner (f ∷ faces) [] h = absurd h
meshed_within v inner (f ∷ faces) (group ∷ groups) h = each_append WithinQuad (on_face f group) (oriented faces groups) (drawn_within f group h.0.drawn) (meshed_within v inner faces groups h.1)

-- ---- a call that answers 0

module _ (voxels : List ℕ) (shape min max : Point) (faces : List OrientedBlockFace) (bytes was : List ℕ) (r : GreedyAnswer) (bytes' out : List ℕ)
    (promised : outcome r bytes' out ≡ greedy_quads voxels shape min max faces bytes was) (zero : r.mesh.refusal ≡ 0) where
  abbrev groups : List (List Listed)
  groups = listed_groups (interior min max) (field shape voxels) faces

  abbrev laid : Laid
  laid = lay quad_numbers numbers_of groups was

  -- Its entry passed,
  entered : checked (greedy_checks voxels shape min max faces (length bytes)) ≡ accepted tt
  unfolding greedy_quads greedy_from listed_after
  entered = entry_by_number _ laid.answer (ap (λ (o : GreedyOutcome). o.mesh.answer) promised) 0 zero (greedy_never voxels shape min max faces (length bytes) 0 refl)

  -- its groups were laid,
  laid_is : listing.outcome r.mesh out ≡ listed_outcome laid
  unfolding greedy_quads greedy_from
  laid_is = ap (λ (o : GreedyOutcome). o.mesh) promised ∙ ap listed_outcome (entry_passed quad_numbers numbers_of groups was entered)

  -- and all of them fitted: so many are counted.
  fitted : (length (joined groups) ≤ capacity quad_numbers (length was)) × (total r.mesh.counts ≡ length (joined groups))
  fitted =
      split (ltb (capacity quad_numbers (length was)) (length (joined groups)))
      (λ t.
      let nine : r.mesh.refusal ≡ 9 = ap (λ (o : MeshOutcome). o.answer.refusal) laid_is ∙ ap (λ (a : Answer (List ℕ)). (mesh_answer a).refusal) (lay_many quad_numbers numbers_of groups was (ltb-true _ _ t)) in
      absurd (omega arith))
      (λ e.
      let fits = ltb-false _ _ e in
      (fits, ap (λ (o : MeshOutcome). total o.answer.counts) laid_is ∙ ap (λ (a : Answer (List ℕ)). total (mesh_answer a).counts) (lay_fits quad_numbers numbers_of groups was fits) ∙ total_joined groups))

  -- Its output is no shorter than it was, and holds them.
  holds : total r.mesh.counts ≤ capacity quad_numbers (length out)
  unfolding lay overwritten capacity
  holds =
      let (fits, all) = fitted in
      let new : List ℕ = joined (map numbers_of (take (capacity quad_numbers (length was)) (joined groups))) in
      let longer : length was ≤ length out = rw (ap (λ (o : MeshOutcome). o.out) laid_is) (omega (arith, length-append new (drop (length new) was), length-drop (length new) was)) in
      (le-div_iff_mul-le {k = quad_numbers} (omega arith)).1 (omega (arith, group_held quad_numbers (length was) (total r.mesh.counts) (omega arith)))

  -- They are at most as many as six shapes have voxels,
  pub outcome_few : length faces ≡ 6 → total r.mesh.counts ≤ 6 * most_voxels
  outcome_few six =
      let parts = (greedy_passed voxels shape min max faces (length bytes) entered).0 in
      omega (arith, fitted.1, rw six at (listed_few (interior min max) (field shape voxels) faces), points_few shape (length voxels) min max (bounds_held shape (length voxels) min max parts.bounds))

  -- and so the mesh passes.
  pub outcome_handed : length faces ≡ 6 → ListedPasses faces r.mesh.counts out
  unfolding handed
  outcome_handed six =
      passed_order quad_numbers faces r.mesh.counts out holds
      (greedy_passed voxels shape min max faces (length bytes) entered).0.signs
      (meshed_within (field shape voxels) (interior min max) faces _ (outcome_holds voxels shape min max faces bytes was r bytes' out promised zero).groups)
      (omega (arith, outcome_few six))

-- ---- the contract

-- Of the contract of `greedy_quads` itself: its arguments are the voxels, the shape, min, max, the faces, which are six, the visited bytes and the output.
module _ (κs : Lifetimes.Lfts 3) (a : World.ArgsD greedy_quads.signature κs) (r : World.ResD greedy_quads.signature κs)
    (s : Clauses.AtExit (Kinds.ended_of 3 greedy-quads-kinds.ps greedy-quads-kinds.r) κs) (post : greedy-quads.Post κs a r s) (six : length a.1.1.1.1.0 ≡ 6) where
  -- A call that answers 0 leaves a mesh that passes: its faces, its answer's counts and its output at exit,
  pub greedy_handed : (greedy_answer (meaning r)).mesh.refusal ≡ 0 → ListedPasses a.1.1.1.1.0 (greedy_answer (meaning r)).mesh.counts s.1.1.1.1.1.1.0.now
  greedy_handed zero = outcome_handed _ _ _ _ _ _ _ _ _ _ post zero six

  -- with at most 100,663,296 quads.
  pub greedy_few : (greedy_answer (meaning r)).mesh.refusal ≡ 0 → total (greedy_answer (meaning r)).mesh.counts ≤ 6 * most_voxels
  greedy_few zero = outcome_few _ _ _ _ _ _ _ _ _ _ post zero six
