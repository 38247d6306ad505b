-- Areas follow from cover. The areas of consistent quads sum to the number of interior points that they cover, each point counted as often as it is covered: counted by quads that
-- is their areas, and counted by points it is, for a cover, the number of visible faces.
use mathlib.Core.Bool.{Bool, ◌&&◌}
use mathlib.Core.List.{List, [], ◌∷◌}
use mathlib.Core.Path.{◌≡◌, sym, ◌∙◌, ap}
use Prim.Native.Nat.{◌≤◌}
use native.Mathlib.Nat.{le_of_eq}
use native.Mathlib.Omega.{arith}
use Rattle.geometry.specs.declared.quad.UnorientedQuad.{UnorientedQuad}
use Rattle.geometry.specs.declared.face.OrientedBlockFace.{OrientedBlockFace}
use Rattle.geometry.specs.Point.{Point}
use Rattle.geometry.specs.Axes.{bit}
use Rattle.geometry.specs.Lists.{how_many}
use Rattle.geometry.proofs.Refusals.{split}
use Rattle.geometry.proofs.Lists.{each_up}
use Rattle.voxels.specs.Shape.{Field}
use Rattle.voxels.specs.Extent.{Inside, scan, inside}
use Rattle.voxels.specs.Visible.{visible}
use Rattle.voxels.proofs.Scan.{scan_inside}
use Rattle.voxels.proofs.Times.{inside_true, inside_yes}
use Rattle.rules.specs.Group.{contains}
use Rattle.rules.specs.Demand.{covers, area, sum_of, Cover, Areas, Consistent}
use Rattle.rules.proofs.Counts.{sum_plus, sum_same, sum_none, sum_bits}
use Rattle.rules.proofs.Contains.{contained_area}
use Rattle.voxels.specs.declared.extent.Extent.{Extent}

module _ (f : OrientedBlockFace) (v : Field) (inner : Extent) where
  -- A point that consistent quads cover is interior.
  covered_inside : (qs : List UnorientedQuad) → Consistent f v inner qs → (p : Point) → 1 ≤ covers f qs p → Inside inner p
  covered_inside qs h p l =
      inside_true inner p
      (split (inside inner p) (λ t. t) (λ n. let none : ⊥ = omega (arith, h p, ap (λ (b : Bool). bit (b && visible f v p)) n) in absurd none))

  -- The areas of consistent quads count the points that they cover.
  pub consistent_areas : (qs : List UnorientedQuad) → Consistent f v inner qs → sum_of area qs ≡ sum_of (covers f qs) (scan inner)
  unfolding covers how_many sum_of
  consistent_areas [] h = sym (sum_none (scan inner))
  consistent_areas (q ∷ qs) h =
      omega (
        arith,
        contained_area f q inner (λ p t. covered_inside (q ∷ qs) h p (omega (arith, ap bit t))),
        consistent_areas qs (λ p. omega (arith, h p)),
        sum_plus (λ (p : Point). bit (contains f q p)) (covers f qs) (scan inner),
      )

  -- So a cover has the areas.
  pub cover_areas : (qs : List UnorientedQuad) → Cover f v inner qs → Areas f v inner qs
  cover_areas qs h =
      consistent_areas qs (λ p. le_of_eq (h p))
      ∙ sum_same _ (λ (p : Point). bit (visible f v p)) (scan inner) (each_up (Inside inner) _ (λ p i. h p ∙ rw (inside_yes inner p i)) (scan inner) (scan_inside inner))
      ∙ sum_bits (visible f v) (scan inner)
