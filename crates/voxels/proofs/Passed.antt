-- What an entry's checks, passed as a whole, have passed part by part.
use Rattle.std.proofs.Common.{◌≡◌, ℕ, List, ◌++◌, length}
use Rattle.geometry.specs.declared.face.OrientedBlockFace.{OrientedBlockFace}
use Rattle.geometry.specs.Refusal.{accepted, checked}
use Rattle.geometry.specs.Point.{Point}
use Rattle.geometry.proofs.Orders.{both_pass}
use Rattle.voxels.specs.Checks.{bounds_checks, bad_faces, few_visited, bad_voxels, unit_checks, greedy_checks}

module _ (voxels : List ℕ) (shape min max : Point) (faces : List OrientedBlockFace) where
  -- 1 to 5, 6 and 8 have passed.
  pub record Passed : Type 0 where
    pub bounds : checked (bounds_checks (length voxels) shape min max) ≡ accepted tt
    pub signs : checked (bad_faces faces) ≡ accepted tt
    pub sound : checked (bad_voxels voxels shape min max) ≡ accepted tt

  passed_from : checked (bounds_checks (length voxels) shape min max ++ bad_faces faces) ≡ accepted tt → checked (bad_voxels voxels shape min max) ≡ accepted tt → Passed
  passed_from h sound =
      let parts = both_pass (bounds_checks (length voxels) shape min max) (bad_faces faces) h in
      record { bounds = parts.0; signs = parts.1; sound = sound }

  -- Of unit meshing,
  pub unit_passed : checked (unit_checks voxels shape min max faces) ≡ accepted tt → Passed
  unit_passed h =
      let parts = both_pass (bounds_checks (length voxels) shape min max ++ bad_faces faces) (bad_voxels voxels shape min max) h in
      passed_from parts.0 parts.1

  -- and of greedy meshing, with 7.
  pub greedy_passed : (lent : ℕ) → checked (greedy_checks voxels shape min max faces lent) ≡ accepted tt → Passed × (checked (few_visited lent shape) ≡ accepted tt)
  greedy_passed lent h =
      let to_faces = bounds_checks (length voxels) shape min max ++ bad_faces faces in
      let all = both_pass (to_faces ++ few_visited lent shape) (bad_voxels voxels shape min max) h in
      let parts = both_pass to_faces (few_visited lent shape) all.0 in
      (passed_from parts.0 all.1, parts.1)
