-- Every export's contract leaves one outcome. Its clauses are those of the function of crate spunmarrow that it calls, as the prover reads both (`Post`): so each theorem is that
-- function's.
use mathlib.Core.List.{List}
use Prim.Native.Nat.{ℕ}
use Rattle.spunmarrow.proofs.Unique as of
use Rattle.spunmarrow.proofs.Unique.{OneLeft}
use Rattle.spunmarrow_c.proofs.draw.spunmarrow_corner.Reads as spunmarrow-corner
use Rattle.spunmarrow_c.proofs.draw.spunmarrow_corners.Reads as spunmarrow-corners
use Rattle.spunmarrow_c.proofs.draw.spunmarrow_normal.Reads as spunmarrow-normal
use Rattle.spunmarrow_c.proofs.draw.spunmarrow_indices.Reads as spunmarrow-indices
use Rattle.spunmarrow_c.proofs.draw.spunmarrow_tex_coords.Reads as spunmarrow-tex-coords
use Rattle.spunmarrow_c.proofs.mesh.spunmarrow_visible_block_faces.Reads as spunmarrow-visible-block-faces
use Rattle.spunmarrow_c.proofs.mesh.spunmarrow_greedy_quads.Reads as spunmarrow-greedy-quads
use Rattle.spunmarrow_c.proofs.write.spunmarrow_write_obj.Reads as spunmarrow-write-obj
use Rattle.spunmarrow_c.proofs.write.spunmarrow_decimal.Reads as spunmarrow-decimal

pub spunmarrow_corner_unique : OneLeft spunmarrow-corner.Post (λ κs s. s.1.1.1.1.1.0.now)
spunmarrow_corner_unique = of.spunmarrow_corner_unique

pub spunmarrow_corners_unique : OneLeft spunmarrow-corners.Post (λ κs s. s.1.1.1.0.now)
spunmarrow_corners_unique = of.spunmarrow_corners_unique

pub spunmarrow_normal_unique : OneLeft spunmarrow-normal.Post (λ κs s. s.1.1.0.now)
spunmarrow_normal_unique = of.spunmarrow_normal_unique

pub spunmarrow_indices_unique : OneLeft spunmarrow-indices.Post (λ κs s. s.1.1.1.0.now)
spunmarrow_indices_unique = of.spunmarrow_indices_unique

pub spunmarrow_tex_coords_unique : OneLeft spunmarrow-tex-coords.Post (λ κs s. s.1.1.1.1.1.0.now)
spunmarrow_tex_coords_unique = of.spunmarrow_tex_coords_unique

pub spunmarrow_visible_block_faces_unique : OneLeft spunmarrow-visible-block-faces.Post {O = List ℕ × List ℕ} (λ κs s. (s.1.1.1.1.1.1.0.now, s.1.1.1.1.1.0.now))
spunmarrow_visible_block_faces_unique = of.spunmarrow_visible_block_faces_unique

pub spunmarrow_greedy_quads_unique : OneLeft spunmarrow-greedy-quads.Post {O = List ℕ × List ℕ × List ℕ} (λ κs s. (s.1.1.1.1.1.1.1.0.now, s.1.1.1.1.1.0.now, s.1.1.1.1.1.1.0.now))
spunmarrow_greedy_quads_unique = of.spunmarrow_greedy_quads_unique

pub spunmarrow_write_obj_unique : OneLeft spunmarrow-write-obj.Post {O = List ℕ × List ℕ} (λ κs s. (s.1.1.1.1.0.now, s.1.1.1.0.now))
spunmarrow_write_obj_unique = of.spunmarrow_write_obj_unique

pub spunmarrow_decimal_unique : OneLeft spunmarrow-decimal.Post (λ κs s. s.1.0.now)
spunmarrow_decimal_unique = of.spunmarrow_decimal_unique
