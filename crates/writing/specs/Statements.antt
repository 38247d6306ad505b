-- What is shown of a mesh that is handed in and passes (proofs/Ordered.antt, `order_passed`), and that the mesh which greedy meshing leaves does (proofs/Greedy.antt, `greedy_handed`).
use Rattle.std.specs.Prelude.{true, List, ◌≡◌, ℕ, ◌≤◌, length}
use Rattle.geometry.specs.declared.face.OrientedBlockFace.{OrientedBlockFace}
use Rattle.geometry.specs.Refusal.{accepted, checked}
use Rattle.geometry.specs.Axes.{axes_of}
use Rattle.geometry.specs.Checks.{proper_sign}
use Rattle.geometry.specs.Quad.{within_limits}
use Rattle.geometry.specs.Lists.{Each}
use Rattle.listing.specs.Listing.{capacity}
use Rattle.writing.specs.Handed.{OrientedQuad, handed, total, most_quads, listed_checks}

-- A quad is within the quad limits, along its own face's u and v: 12 does not refuse it.
abbrev pub WithinQuad : OrientedQuad → Type 0
WithinQuad q = within_limits (axes_of q.face.permutation) q.quad ≡ true

-- A mesh passes: its list holds all the quads that the counts claim, each face's sign is proper, each quad is within the limits, and they are not too many.
pub record Passes (numbers : ℕ) (faces : List OrientedBlockFace) (counts list : List ℕ) : Type 0 where
  pub held : total counts ≤ capacity numbers (length list)
  pub signs : Each (λ (f : OrientedBlockFace). proper_sign f.n_sign ≡ true) faces
  pub quads : Each WithinQuad (handed numbers faces counts list)
  pub few : total counts ≤ most_quads

-- A list as greedy meshing writes it, with its faces and its counts: none of 24, 6, 12 and 13 refuses it, so that 15 alone is left to a writer.
abbrev pub ListedPasses : List OrientedBlockFace → List ℕ → List ℕ → Type 0
ListedPasses faces counts list = checked (listed_checks faces counts list) ≡ accepted tt
