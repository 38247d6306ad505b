-- Every exported function's contract leaves one outcome: of any two that it allows, the results are equal and so are the buffers at exit. Each theorem is about the contract
-- itself, as the function's generated `Reads` has it (`Post`), and not about a copy of it.
use mathlib.Core.List.{List}
use mathlib.Core.Path.{◌≡◌, refl, sym, ◌∙◌, ap}
use Prim.Native.Nat.{ℕ}
use Rattle.spunmarrow.specs.Draw.{Told}
use Rattle.digits.specs.Decimal.{Spelt}
use Rattle.spunmarrow.specs.Mesh.{UnitLeft, GreedyLeft}
use Rattle.spunmarrow.specs.Write.{WriteLeft}
use Rattle.spunmarrow.proofs.draw.spunmarrow_corner.Reads as spunmarrow-corner
use Rattle.spunmarrow.proofs.draw.spunmarrow_corners.Reads as spunmarrow-corners
use Rattle.spunmarrow.proofs.draw.spunmarrow_normal.Reads as spunmarrow-normal
use Rattle.spunmarrow.proofs.draw.spunmarrow_indices.Reads as spunmarrow-indices
use Rattle.spunmarrow.proofs.draw.spunmarrow_tex_coords.Reads as spunmarrow-tex-coords
use Rattle.spunmarrow.proofs.mesh.spunmarrow_visible_block_faces.Reads as spunmarrow-visible-block-faces
use Rattle.spunmarrow.proofs.mesh.spunmarrow_greedy_quads.Reads as spunmarrow-greedy-quads
use Rattle.spunmarrow.proofs.write.spunmarrow_write_obj.Reads as spunmarrow-write-obj
use Rattle.spunmarrow.proofs.write.spunmarrow_decimal.Reads as spunmarrow-decimal

-- A contract, as a relation of lifetimes, arguments, the result and what is lent at exit, leaves one result, and one of what is read at exit.
abbrev pub OneLeft {ℓ α ρ σ π ο} :
    {L : Type ℓ} {A : L → Type α} {R : L → Type ρ} {S : L → Type σ} → ((κs : L) → A κs → R κs → S κs → Type π) → {O : Type ο} → ((κs : L) → S κs → O) → Type (ℓ ⊔ α ⊔ ρ ⊔ σ ⊔ π ⊔ ο)
OneLeft {L = L} {A = A} {R = R} {S = S} Post left =
    (κs : L) (a : A κs) (r r' : R κs) (s s' : S κs) → Post κs a r s → Post κs a r' s' → (r ≡ r') × (left κs s ≡ left κs s')

-- Of two outcomes of a call of the drawing code that are one, the numbers and the outputs are.
one_told : {A : Type 0} {t u v : Told A} → t ≡ v → u ≡ v → (t.number ≡ u.number) × (t.out ≡ u.out)
one_told {A} p q =
    let e = p ∙ sym q in
    (ap (λ (t : Told A). t.number) e, ap (λ (t : Told A). t.out) e)

pub spunmarrow_corner_unique : OneLeft spunmarrow-corner.Post (λ κs s. s.1.1.1.1.1.0.now)
spunmarrow_corner_unique κs a r r' s s' p q = one_told p q

pub spunmarrow_corners_unique : OneLeft spunmarrow-corners.Post (λ κs s. s.1.1.1.0.now)
spunmarrow_corners_unique κs a r r' s s' p q = one_told p q

pub spunmarrow_normal_unique : OneLeft spunmarrow-normal.Post (λ κs s. s.1.1.0.now)
spunmarrow_normal_unique κs a r r' s s' p q = one_told p q

pub spunmarrow_indices_unique : OneLeft spunmarrow-indices.Post (λ κs s. s.1.1.1.0.now)
spunmarrow_indices_unique κs a r r' s s' p q = one_told p q

pub spunmarrow_tex_coords_unique : OneLeft spunmarrow-tex-coords.Post (λ κs s. s.1.1.1.1.1.0.now)
spunmarrow_tex_coords_unique κs a r r' s s' p q = one_told p q

-- A mesher's call has no result: it leaves its answer, its output and, for greedy meshing, the visited bytes.
pub spunmarrow_visible_block_faces_unique : OneLeft spunmarrow-visible-block-faces.Post {O = List ℕ × List ℕ} (λ κs s. (s.1.1.1.1.1.1.0.now, s.1.1.1.1.1.0.now))
spunmarrow_visible_block_faces_unique κs a r r' s s' p q =
    let e = p ∙ sym q in
    (refl, ap (λ (o : UnitLeft). (o.answer, o.out)) e)

pub spunmarrow_greedy_quads_unique : OneLeft spunmarrow-greedy-quads.Post {O = List ℕ × List ℕ × List ℕ} (λ κs s. (s.1.1.1.1.1.1.1.0.now, s.1.1.1.1.1.0.now, s.1.1.1.1.1.1.0.now))
spunmarrow_greedy_quads_unique κs a r r' s s' p q =
    let e = p ∙ sym q in
    (refl, ap (λ (o : GreedyLeft). (o.answer, o.visited, o.out)) e)

-- A writer's call leaves its answer and its output,
pub spunmarrow_write_obj_unique : OneLeft spunmarrow-write-obj.Post {O = List ℕ × List ℕ} (λ κs s. (s.1.1.1.1.0.now, s.1.1.1.0.now))
spunmarrow_write_obj_unique κs a r r' s s' p q =
    let e = p ∙ sym q in
    (refl, ap (λ (o : WriteLeft). (o.answer, o.out)) e)

-- and the formatter's, beside its result, the scratch.
pub spunmarrow_decimal_unique : OneLeft spunmarrow-decimal.Post (λ κs s. s.1.0.now)
spunmarrow_decimal_unique κs a r r' s s' p q =
    let e = p ∙ sym q in
    (ap (λ (o : Spelt). o.written) e, ap (λ (o : Spelt). o.scratch) e)
