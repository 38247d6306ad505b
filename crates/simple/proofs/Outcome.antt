-- From the entry to the whole outcome: what a refused entry leaves, what an accepted one is known to be, and what it leaves.
use mathlib.Core.List.{List}
use mathlib.Core.Path.{◌≡◌, refl, sym, ◌∙◌, ap}
use Prim.Native.Nat.{ℕ, ◌<◌}
use lib.ListN.{length, get_or}
use Rattle.geometry.specs.declared.face.OrientedBlockFace.{OrientedBlockFace}
use Rattle.geometry.specs.Refusal.{accepted, refused, Check, answer}
use Rattle.geometry.specs.Point.{Point}
use Rattle.geometry.proofs.Refusals.{accepts_checked, answer_refused}
use Rattle.voxels.specs.Shape.{field}
use Rattle.voxels.specs.Checks.{unit_checks}
use Rattle.voxels.specs.Answers.{entry}
use Rattle.voxels.proofs.Passed.{Passed, unit_passed}
use Rattle.voxels.proofs.Held.{bounds_held}
use Rattle.voxels.proofs.Entered.{interior_is}
use Rattle.voxels.proofs.Lowest.{sound_around}
use Rattle.listing.specs.Outcome.{MeshAnswer, mesh_answer, MeshOutcome, outcome, listed_outcome}
use Rattle.listing.proofs.Outcome.{entry_refused}
use Rattle.simple.specs.Kernel.{Meshable}
use Rattle.simple.specs.Unit.{unit_numbers, numbers_of, unit_from, visible_block_faces}
use Rattle.voxels.specs.declared.bounds.Entry.{Entry}

-- A unit quad has three numbers.
pub three : (p : Point) → length (numbers_of p) ≡ unit_numbers
three p = refl

module _ (voxels : List ℕ) (shape min max : Point) (faces : List OrientedBlockFace) where
  abbrev checks : List Check
  checks = unit_checks voxels shape min max faces

  -- A refused entry leaves the output as it was.
  pub refused_outcome : (out : List ℕ) (r : MeshAnswer) {n p : ℕ} → answer checks (entry shape min max) ≡ refused n p → r ≡ mesh_answer (refused n p)
      → outcome r out ≡ visible_block_faces voxels shape min max faces out
  unfolding visible_block_faces unit_from
  refused_outcome out r e is =
      ap (λ (a : MeshAnswer). outcome a out) is ∙ ap listed_outcome (sym (entry_refused unit_numbers numbers_of _ out (answer_refused checks (entry shape min max) e)))

  module _ (e : Entry) (enters : answer checks (entry shape min max) ≡ accepted e) where
    -- An accepted entry has passed its checks,
    passed : Passed voxels shape min max faces
    passed = unit_passed voxels shape min max faces (accepts_checked checks (entry shape min max) enters)

    -- and its interior can be meshed: it is that of such a box, and no voxel of the box is bad.
    pub is_meshable : ((i : ℕ) → get_or voxels i 0 < 65_536) → Meshable voxels shape e.interior
    is_meshable small =
        let is = interior_is checks shape min max enters in
        let held = bounds_held shape (length voxels) min max passed.bounds in
        record {
          entered = record { min = min; max = max; is = is; held = held };
          sound = rw is (sound_around shape (length voxels) min max held voxels passed.sound small);
        }

    -- It leaves what meshing leaves.
    pub entered_outcome : (out : List ℕ) {o : MeshOutcome} → o ≡ unit_from (accepted tt) e.interior (field shape voxels) faces out → o ≡ visible_block_faces voxels shape min max faces out
    unfolding visible_block_faces
    entered_outcome out h = h ∙ rw (accepts_checked checks (entry shape min max) enters, interior_is checks shape min max enters)
