-- What a call leaves, from the contract of `visible_block_faces` alone: what every call that answers 0 leaves, and what refusal 9 leaves.
use mathlib.Core.Bool.{false}
use mathlib.Core.List.{List, [], ◌∷◌, ◌++◌, map}
use mathlib.Core.Path.{◌≡◌, refl, ◌∙◌, ap}
use Prim.Native.Nat.{ℕ}
use lib.ListN.{length}
use Rattle.std.proofs.lemmas.List.{map-id}
use contract.Lifetimes
use borrow.Fn.World
use borrow.Fn.Kinds
use denote.Triple.Clauses
use Rattle.geometry.specs.declared.face.OrientedBlockFace.{OrientedBlockFace}
use Rattle.geometry.specs.Refusal.{accepted, Check, checked}
use Rattle.geometry.specs.Point.{Point}
use Rattle.geometry.proofs.Lists.{each_up}
use Rattle.voxels.specs.Shape.{Field, field}
use Rattle.voxels.specs.Extent.{interior}
use Rattle.voxels.specs.Checks.{unit_checks}
use Rattle.voxels.proofs.Passed.{unit_passed}
use Rattle.voxels.proofs.Numbered.{entry_number, unit_never}
use Rattle.listing.specs.Listing.{lay}
use Rattle.geometry.specs.Answers.{meaning}
use Rattle.listing.specs.Outcome.{MeshAnswer, mesh_answer, listed_after, MeshOutcome, outcome, listed_outcome}
use Rattle.listing.specs.Cut.{groups_in}
use Rattle.listing.proofs.Outcome.{entry_passed, entry_by_number}
use Rattle.listing.proofs.Cut.{matched_each, zero_groups, nine_place, nine_first}
use Rattle.rules.specs.Unit.{unit_group, unit_groups}
use Rattle.rules.specs.Drawn.{UnitDrawn}
use Rattle.rules.proofs.Unit.{unit_holds}
use Rattle.rules.proofs.Drawn.{unit_drawn}
use Rattle.simple.specs.Unit.{unit_numbers, numbers_of, unit_from, visible_block_faces}
use Rattle.simple.specs.Call.{minimum_from, UnitMeshed, CallHolds, NineHolds}
use Rattle.simple.proofs.Outcome.{three}
use Rattle.voxels.specs.declared.extent.Extent.{Extent}
use Rattle.simple.specs.contracts.visible_block_faces
use Rattle.simple.proofs.visible_block_faces.Kinds as visible-block-faces-kinds
use Rattle.simple.proofs.visible_block_faces.Reads as visible-block-faces

-- A unit quad is read back from its numbers.
minimum_back : (p : Point) (rest : List ℕ) → minimum_from (numbers_of p ++ rest) ≡ p
unfolding minimum_from
minimum_back p rest = refl

same_groups : {A : Type 0} (ls : List (List A)) → map (map (λ (a : A). a)) ls ≡ ls
same_groups [] = refl
same_groups (l ∷ ls) = rw (map-id l, same_groups ls)

module _ (voxels : List ℕ) (shape min max : Point) (faces : List OrientedBlockFace) (was : List ℕ) (r : MeshAnswer) (out : List ℕ)
    (promised : outcome r out ≡ visible_block_faces voxels shape min max faces was) where
  abbrev inner : Extent
  inner = interior min max

  abbrev v : Field
  v = field shape voxels

  abbrev checks : List Check
  checks = unit_checks voxels shape min max faces

  abbrev groups : List (List Point)
  groups = unit_groups inner v faces

  -- An answer whose number no entry gives comes from an accepted entry,
  passed : (m : ℕ) → r.refusal ≡ m → entry_number m ≡ false → checked checks ≡ accepted tt
  unfolding visible_block_faces unit_from listed_after
  passed m is other = entry_by_number (checked checks) (lay unit_numbers numbers_of groups was).answer (ap (λ (o : MeshOutcome). o.answer) promised) m is (unit_never voxels shape min max faces m other)

  -- and then the call leaves what laying the groups leaves.
  laid : checked checks ≡ accepted tt → outcome r out ≡ listed_outcome (lay unit_numbers numbers_of groups was)
  unfolding visible_block_faces unit_from
  laid entered = promised ∙ ap listed_outcome (entry_passed unit_numbers numbers_of groups was entered)

  -- The groups that the counts of an accepted call cut out of its output are the rule's,
  pub outcome_groups : r.refusal ≡ 0 → groups_in unit_numbers minimum_from r.counts out ≡ unit_groups inner v faces
  outcome_groups is =
      let left = laid (passed 0 is refl) in
      zero_groups unit_numbers numbers_of three minimum_from (λ (p : Point). p) minimum_back groups was (ap (λ (o : MeshOutcome). o.answer) left) (ap (λ (o : MeshOutcome). o.out) left) is
      ∙ same_groups groups

  -- and each holds what it should, and can be drawn.
  pub outcome_holds : r.refusal ≡ 0 → CallHolds voxels shape min max faces r out
  unfolding unit_groups
  outcome_holds is =
      let parts = unit_passed voxels shape min max faces (passed 0 is refl) in
      rw (outcome_groups is)
      (matched_each (UnitMeshed v inner) (unit_group inner v) faces
      (each_up (UnitDrawn inner v) (λ (f : OrientedBlockFace). UnitMeshed v inner f (unit_group inner v f)) (λ f d. record { holds = unit_holds inner v f; drawn = d }) faces
      (unit_drawn shape (length voxels) min max parts.bounds v faces parts.signs)))

  -- And what refusal 9 leaves.
  pub outcome_nine : r.refusal ≡ 9 → NineHolds voxels shape min max faces r out
  outcome_nine is =
      let left = laid (passed 9 is refl) in
      let answers = ap (λ (o : MeshOutcome). o.answer) left in
      let leaves = ap (λ (o : MeshOutcome). o.out) left in
      record {
        place = nine_place unit_numbers numbers_of three minimum_from (λ (p : Point). p) minimum_back groups was answers leaves is;
        first = rw (same_groups groups) at (nine_first unit_numbers numbers_of three minimum_from (λ (p : Point). p) minimum_back groups was answers leaves is);
      }

-- Of the contract of `visible_block_faces` itself: its arguments are the voxels, the shape, min, max, the faces and the output.
module _ (κs : Lifetimes.Lfts 2) (a : World.ArgsD visible_block_faces.signature κs) (r : World.ResD visible_block_faces.signature κs)
    (s : Clauses.AtExit (Kinds.ended_of 2 visible-block-faces-kinds.ps visible-block-faces-kinds.r) κs) (post : visible-block-faces.Post κs a r s) where
  -- What it answers.
  abbrev answers : MeshAnswer
  answers = mesh_answer (meaning r)

  -- A call that answers 0,
  pub call_holds : answers.refusal ≡ 0 → CallHolds a.0.now a.1.0 a.1.1.0 a.1.1.1.0 a.1.1.1.1.0 answers s.1.1.1.1.1.0.now
  call_holds = outcome_holds _ _ _ _ _ _ _ _ post

  -- and one that answers 9.
  pub nine_holds : answers.refusal ≡ 9 → NineHolds a.0.now a.1.0 a.1.1.0 a.1.1.1.0 a.1.1.1.1.0 answers s.1.1.1.1.1.0.now
  nine_holds = outcome_nine _ _ _ _ _ _ _ _ post
