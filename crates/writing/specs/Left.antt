-- What is left of a mesh that a loop goes through, quad by quad and group by group: for private contracts, those of every writer too.
use Rattle.std.specs.Prelude.{List, ℕ, ◌*◌, drop}
use Rattle.geometry.specs.declared.face.OrientedBlockFace.{OrientedBlockFace}
use Rattle.listing.specs.Cut.{items_in, groups_in}
use Rattle.greedy.specs.Call.{quad_from}
use Rattle.writing.specs.Handed.{OrientedQuad, on_face, oriented, numbered}

-- The quads of a group that are left: so many of a list, from a number of it on, on a face.
unfoldable pub quads_left : ℕ → List ℕ → OrientedBlockFace → ℕ → ℕ → List OrientedQuad
quads_left numbers list face at count = on_face face (items_in numbers quad_from count (drop at list))

-- What is made of them, the first of them being the mesh's quad k.
abbrev pub group_left : {A : Type 0} → (ℕ → OrientedQuad → List A) → ℕ → List ℕ → OrientedBlockFace → ℕ → ℕ → ℕ → List A
group_left g numbers list face k at count = numbered g k (quads_left numbers list face at count)

-- The quads of the groups that are left, by their faces and counts.
unfoldable pub mesh_left : ℕ → List ℕ → ℕ → List OrientedBlockFace → List ℕ → List OrientedQuad
mesh_left numbers list at faces counts = oriented faces (groups_in numbers quad_from counts (drop at list))

-- What is made of them.
abbrev pub groups_left : {A : Type 0} → (ℕ → OrientedQuad → List A) → ℕ → List ℕ → ℕ → ℕ → List OrientedBlockFace → List ℕ → List A
groups_left g numbers list k at faces counts = numbered g k (mesh_left numbers list at faces counts)

-- The same after k groups with so many quads.
abbrev pub groups_from : {A : Type 0} → (ℕ → OrientedQuad → List A) → ℕ → List ℕ → List OrientedBlockFace → List ℕ → ℕ → ℕ → List A
groups_from g numbers list faces counts first k = groups_left g numbers list first (first * numbers) (drop k faces) (drop k counts)
