-- Every public function's contract leaves one outcome: any two that it allows are equal. Each theorem is about the contract itself, as the function's
-- generated `Reads` has it (`Post`), and not about a copy of it. No function here is lent anything to write, so its outcome is its result.
use Rattle.std.proofs.Common.{◌≡◌, ℕ, sym, ap, ◌∙◌}
use Rattle.geometry.proofs.One.{One, meaning_one}
use Rattle.voxels.specs.declared.index.VoxelIndex.{VoxelIndex}
use Rattle.voxels.specs.declared.index.Stride.{Stride}
use Rattle.voxels.proofs.bounds.check_bounds.Reads as check-bounds
use Rattle.voxels.proofs.bounds.check_faces.Reads as check-faces
use Rattle.voxels.proofs.bounds.check_max.Reads as check-max
use Rattle.voxels.proofs.bounds.check_min.Reads as check-min
use Rattle.voxels.proofs.bounds.check_shape.Reads as check-shape
use Rattle.voxels.proofs.bounds.check_span.Reads as check-span
use Rattle.voxels.proofs.bounds.check_visited_count.Reads as check-visited-count
use Rattle.voxels.proofs.bounds.check_voxel_count.Reads as check-voxel-count
use Rattle.voxels.proofs.bounds.check_voxels.Reads as check-voxels
use Rattle.voxels.proofs.bounds.enter_greedy.Reads as enter-greedy
use Rattle.voxels.proofs.bounds.enter_unit.Reads as enter-unit
use Rattle.voxels.proofs.index.Stride.new.Reads as Stride-new
use Rattle.voxels.proofs.index.Stride.visibility_offset.Reads as Stride-visibility-offset
use Rattle.voxels.proofs.index.VoxelIndex.linearize.Reads as VoxelIndex-linearize
use Rattle.voxels.proofs.index.VoxelIndex.offset.Reads as VoxelIndex-offset
use Rattle.voxels.proofs.voxel.class.Reads as class
use Rattle.voxels.proofs.voxel.sight.Reads as sight
use Rattle.voxels.proofs.voxel.merge_value.Reads as merge-value
use Rattle.voxels.proofs.voxel.shows_face.Reads as shows-face
use Rattle.voxels.proofs.voxel.uniform.Reads as uniform

-- ---- answers that mean the same are the same

index_one : (r r' : VoxelIndex) → r.0 ≡ r'.0 → r ≡ r'
index_one r r' e = ap (λ (n : ℕ). record { 0 = n }) e

stride_one : (r r' : Stride) → r.0 ≡ r'.0 → r ≡ r'
stride_one r r' e = ap (λ (n : ℕ). record { 0 = n }) e

-- ---- the theorems

pub check_shape_unique : One check-shape.Post
check_shape_unique κs a r r' s s' p q = meaning_one r r' (p ∙ sym q)

pub check_voxel_count_unique : One check-voxel-count.Post
check_voxel_count_unique κs a r r' s s' p q = meaning_one r r' (p ∙ sym q)

pub check_min_unique : One check-min.Post
check_min_unique κs a r r' s s' p q = meaning_one r r' (p ∙ sym q)

pub check_max_unique : One check-max.Post
check_max_unique κs a r r' s s' p q = meaning_one r r' (p ∙ sym q)

pub check_span_unique : One check-span.Post
check_span_unique κs a r r' s s' p q = meaning_one r r' (p ∙ sym q)

pub check_faces_unique : One check-faces.Post
check_faces_unique κs a r r' s s' p q = meaning_one r r' (p ∙ sym q)

pub check_visited_count_unique : One check-visited-count.Post
check_visited_count_unique κs a r r' s s' p q = meaning_one r r' (p ∙ sym q)

pub check_bounds_unique : One check-bounds.Post
check_bounds_unique κs a r r' s s' p q = meaning_one r r' (p ∙ sym q)

pub check_voxels_unique : One check-voxels.Post
check_voxels_unique κs a r r' s s' p q = meaning_one r r' (p ∙ sym q)

pub enter_unit_unique : One enter-unit.Post
enter_unit_unique κs a r r' s s' p q = meaning_one r r' (p ∙ sym q)

pub enter_greedy_unique : One enter-greedy.Post
enter_greedy_unique κs a r r' s s' p q = meaning_one r r' (p ∙ sym q)

pub VoxelIndex-linearize-unique : One VoxelIndex-linearize.Post
VoxelIndex-linearize-unique κs a r r' s s' p q = index_one r r' (p ∙ sym q)

pub VoxelIndex-offset-unique : One VoxelIndex-offset.Post
VoxelIndex-offset-unique κs a r r' s s' p q = index_one r r' (p ∙ sym q)

pub Stride-new-unique : One Stride-new.Post
Stride-new-unique κs a r r' s s' p q = stride_one r r' (p ∙ sym q)

pub Stride-visibility-offset-unique : One Stride-visibility-offset.Post
Stride-visibility-offset-unique κs a r r' s s' p q = stride_one r r' (p ∙ sym q)

pub class_unique : One class.Post
class_unique κs a r r' s s' p q = p ∙ sym q

pub sight_unique : One sight.Post
sight_unique κs a r r' s s' p q = p ∙ sym q

pub merge_value_unique : One merge-value.Post
merge_value_unique κs a r r' s s' p q = p ∙ sym q

pub shows_face_unique : One shows-face.Post
shows_face_unique κs a r r' s s' p q = p ∙ sym q

pub uniform_unique : One uniform.Post
uniform_unique κs a r r' s s' p q = p ∙ sym q
