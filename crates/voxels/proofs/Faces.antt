-- Faces that check 6 has passed: each one's sign is proper.
use Rattle.std.proofs.Common.{◌≡◌, ℕ, ◌+◌, true, List, [], ◌∷◌}
use borrow.Author.Tests.{not-false}
use Rattle.geometry.specs.declared.face.OrientedBlockFace.{OrientedBlockFace}
use Rattle.geometry.specs.Refusal.{accepted, at_place, checked}
use Rattle.geometry.specs.Checks.{proper_sign, bad_sign}
use Rattle.geometry.specs.Lists.{Each}
use Rattle.geometry.proofs.Refusals.{first_passes, rest_accepts}
use Rattle.voxels.specs.Checks.{bad_faces_from}

-- A face's sign is proper.
abbrev pub Proper : OrientedBlockFace → Type 0
Proper f = proper_sign f.n_sign ≡ true

pub faces_proper : (k : ℕ) (faces : List OrientedBlockFace) → checked (bad_faces_from k faces) ≡ accepted tt → Each Proper faces
unfolding bad_faces_from Each
faces_proper k [] h = tt
faces_proper k (f ∷ fs) h =
    (not-false _ (first_passes (at_place k (bad_sign f)) (bad_faces_from (k + 1) fs) tt h), faces_proper (k + 1) fs (rest_accepts (at_place k (bad_sign f)) (bad_faces_from (k + 1) fs) tt h))
