-- Every public function's contract leaves one outcome: any two that it allows are equal. Each theorem is about the contract itself, as the function's
-- generated `Reads` has it (`Post`), and not about a copy of it. No function here is lent anything, so its outcome is its result.
use mathlib.Core.Path.{sym, ◌∙◌}
use denote.RattleType.{RattleType}
use denote.Param.Laws.{Laws}
use mir.Syntax.{Dict}
use Rattle.geometry.proofs.One.{One, meaning_one}
use Rattle.geometry.proofs.axis.Axis.coordinate.Reads as Axis-coordinate
use Rattle.geometry.proofs.axis.Axis.get_unit_vector.Reads as Axis-get-unit-vector
use Rattle.geometry.proofs.axis.Axis.index.Reads as Axis-index
use Rattle.geometry.proofs.axis.AxisPermutation.axes.Reads as AxisPermutation-axes
use Rattle.geometry.proofs.axis.AxisPermutation.even_with_normal_axis.Reads as AxisPermutation-even-with-normal-axis
use Rattle.geometry.proofs.axis.AxisPermutationTryFromU32.try_from.Reads as AxisPermutation-from-number
use Rattle.geometry.proofs.axis.U32FromAxisPermutation.from.Reads as AxisPermutation-number
use Rattle.geometry.proofs.axis.AxisPermutation.odd_with_normal_axis.Reads as AxisPermutation-odd-with-normal-axis
use Rattle.geometry.proofs.axis.AxisPermutation.sign.Reads as AxisPermutation-sign
use Rattle.geometry.proofs.axis.SignedAxis.from_vector.Reads as SignedAxis-from-vector
use Rattle.geometry.proofs.axis.SignedAxis.get_unit_vector.Reads as SignedAxis-get-unit-vector
use Rattle.geometry.proofs.axis.SignedAxis.new.Reads as SignedAxis-new
use Rattle.geometry.proofs.axis.SignedAxis.signum.Reads as SignedAxis-signum
use Rattle.geometry.proofs.axis.SignedAxis.unsigned_axis.Reads as SignedAxis-unsigned-axis
use Rattle.geometry.proofs.face.OrientedBlockFace.canonical.Reads as OrientedBlockFace-canonical
use Rattle.geometry.proofs.face.OrientedBlockFace.check_quad.Reads as OrientedBlockFace-check-quad
use Rattle.geometry.proofs.face.OrientedBlockFace.check_sign.Reads as OrientedBlockFace-check-sign
use Rattle.geometry.proofs.face.OrientedBlockFace.new.Reads as OrientedBlockFace-new
use Rattle.geometry.proofs.face.OrientedBlockFace.quad_corners.Reads as OrientedBlockFace-quad-corners
use Rattle.geometry.proofs.face.OrientedBlockFace.quad_mesh_indices.Reads as OrientedBlockFace-quad-mesh-indices
use Rattle.geometry.proofs.face.OrientedBlockFace.quad_mesh_normals.Reads as OrientedBlockFace-quad-mesh-normals
use Rattle.geometry.proofs.face.OrientedBlockFace.quad_mesh_position.Reads as OrientedBlockFace-quad-mesh-position
use Rattle.geometry.proofs.face.OrientedBlockFace.quad_mesh_positions.Reads as OrientedBlockFace-quad-mesh-positions
use Rattle.geometry.proofs.face.OrientedBlockFace.signed_normal.Reads as OrientedBlockFace-signed-normal
use Rattle.geometry.proofs.face.OrientedBlockFace.tex_coords.Reads as OrientedBlockFace-tex-coords
use Rattle.geometry.proofs.quad.UnorientedQuadFromUnorientedUnitQuad.from.Reads as UnorientedQuad-from
use Rattle.geometry.proofs.refusal.Reason.at.Reads as Reason-at
use Rattle.geometry.proofs.refusal.U32FromReason.from.Reads as Reason-number
use Rattle.geometry.proofs.refusal.first_refusal.Reads as first-refusal

-- ---- the theorems

pub Axis-index-unique : One Axis-index.Post
Axis-index-unique κs a r r' s s' p q = p ∙ sym q

pub Axis-get-unit-vector-unique : One Axis-get-unit-vector.Post
Axis-get-unit-vector-unique κs a r r' s s' p q = p ∙ sym q

pub Axis-coordinate-unique : One Axis-coordinate.Post
Axis-coordinate-unique κs a r r' s s' p q = p ∙ sym q

pub AxisPermutation-even-with-normal-axis-unique : One AxisPermutation-even-with-normal-axis.Post
AxisPermutation-even-with-normal-axis-unique κs a r r' s s' p q = p ∙ sym q

pub AxisPermutation-odd-with-normal-axis-unique : One AxisPermutation-odd-with-normal-axis.Post
AxisPermutation-odd-with-normal-axis-unique κs a r r' s s' p q = p ∙ sym q

pub AxisPermutation-sign-unique : One AxisPermutation-sign.Post
AxisPermutation-sign-unique κs a r r' s s' p q = p ∙ sym q

pub AxisPermutation-axes-unique : One AxisPermutation-axes.Post
AxisPermutation-axes-unique κs a r r' s s' p q = p ∙ sym q

pub AxisPermutation-number-unique : One AxisPermutation-number.Post
AxisPermutation-number-unique κs a r r' s s' p q = p ∙ sym q

pub SignedAxis-unsigned-axis-unique : One SignedAxis-unsigned-axis.Post
SignedAxis-unsigned-axis-unique κs a r r' s s' p q = p ∙ sym q

pub SignedAxis-signum-unique : One SignedAxis-signum.Post
SignedAxis-signum-unique κs a r r' s s' p q = p ∙ sym q

pub SignedAxis-get-unit-vector-unique : One SignedAxis-get-unit-vector.Post
SignedAxis-get-unit-vector-unique κs a r r' s s' p q = p ∙ sym q

pub UnorientedQuad-from-unique : One UnorientedQuad-from.Post
UnorientedQuad-from-unique κs a r r' s s' p q = p ∙ sym q

pub OrientedBlockFace-canonical-unique : One OrientedBlockFace-canonical.Post
OrientedBlockFace-canonical-unique κs a r r' s s' p q = p ∙ sym q

pub AxisPermutation-from-number-unique : One AxisPermutation-from-number.Post
AxisPermutation-from-number-unique κs a r r' s s' p q = meaning_one r r' (p ∙ sym q)

pub SignedAxis-new-unique : One SignedAxis-new.Post
SignedAxis-new-unique κs a r r' s s' p q = meaning_one r r' (p ∙ sym q)

pub SignedAxis-from-vector-unique : One SignedAxis-from-vector.Post
SignedAxis-from-vector-unique κs a r r' s s' p q = meaning_one r r' (p ∙ sym q)

pub OrientedBlockFace-new-unique : One OrientedBlockFace-new.Post
OrientedBlockFace-new-unique κs a r r' s s' p q = meaning_one r r' (p ∙ sym q)

pub Reason-at-unique : One Reason-at.Post
Reason-at-unique κs a r r' s s' p q = p ∙ sym q

pub Reason-number-unique : One Reason-number.Post
Reason-number-unique κs a r r' s s' p q = p ∙ sym q

pub first_refusal_unique : (E : RattleType) (laws : Laws E) (dict : Dict) → One (first-refusal.Post E laws dict)
first_refusal_unique E laws dict κs a r r' s s' p q = p ∙ sym q

pub OrientedBlockFace-check-sign-unique : One OrientedBlockFace-check-sign.Post
OrientedBlockFace-check-sign-unique κs a r r' s s' p q = meaning_one r r' (p ∙ sym q)

pub OrientedBlockFace-check-quad-unique : One OrientedBlockFace-check-quad.Post
OrientedBlockFace-check-quad-unique κs a r r' s s' p q = meaning_one r r' (p ∙ sym q)

pub OrientedBlockFace-signed-normal-unique : One OrientedBlockFace-signed-normal.Post
OrientedBlockFace-signed-normal-unique κs a r r' s s' p q = meaning_one r r' (p ∙ sym q)

pub OrientedBlockFace-quad-corners-unique : One OrientedBlockFace-quad-corners.Post
OrientedBlockFace-quad-corners-unique κs a r r' s s' p q = meaning_one r r' (p ∙ sym q)

pub OrientedBlockFace-quad-mesh-positions-unique : One OrientedBlockFace-quad-mesh-positions.Post
OrientedBlockFace-quad-mesh-positions-unique κs a r r' s s' p q = meaning_one r r' (p ∙ sym q)

pub OrientedBlockFace-quad-mesh-position-unique : One OrientedBlockFace-quad-mesh-position.Post
OrientedBlockFace-quad-mesh-position-unique κs a r r' s s' p q = meaning_one r r' (p ∙ sym q)

pub OrientedBlockFace-quad-mesh-normals-unique : One OrientedBlockFace-quad-mesh-normals.Post
OrientedBlockFace-quad-mesh-normals-unique κs a r r' s s' p q = meaning_one r r' (p ∙ sym q)

pub OrientedBlockFace-quad-mesh-indices-unique : One OrientedBlockFace-quad-mesh-indices.Post
OrientedBlockFace-quad-mesh-indices-unique κs a r r' s s' p q = meaning_one r r' (p ∙ sym q)

pub OrientedBlockFace-tex-coords-unique : One OrientedBlockFace-tex-coords.Post
OrientedBlockFace-tex-coords-unique κs a r r' s s' p q = meaning_one r r' (p ∙ sym q)
