-- Each group of unit meshing holds exactly the interior voxels whose face is visible, each once, in scan order, and its count is their number.
use mathlib.Core.Bool.{Bool, true, false, ◌&&◌}
use mathlib.Core.Path.{◌≡◌, refl, ◌∙◌, ap}
use Prim.Native.Nat.{ℕ, ◌*◌}
use native.Mathlib.Omega.{arith}
use Rattle.geometry.specs.declared.face.OrientedBlockFace.{OrientedBlockFace}
use Rattle.geometry.specs.Point.{Point}
use Rattle.geometry.specs.Axes.{u_axis, v_axis, bit}
use Rattle.geometry.specs.Statements.{unit_quad_at}
use Rattle.geometry.proofs.Lists.{those_count}
use Rattle.voxels.specs.Shape.{Field}
use Rattle.voxels.specs.Extent.{Inside, scan, inside}
use Rattle.voxels.specs.Visible.{visible}
use Rattle.voxels.proofs.Times.{scan_once, times_those}
use Rattle.rules.specs.Unit.{unit_group, UnitHolds}
use Rattle.rules.specs.Demand.{InSlice}
use Rattle.voxels.specs.declared.extent.Extent.{Extent}

-- Both of two tests.
bit_both : (a b : Bool) → bit b * bit a ≡ bit (a && b)
bit_both true true = refl
bit_both true false = refl
bit_both false true = refl
bit_both false false = refl

pub unit_holds : (inner : Extent) (v : Field) (f : OrientedBlockFace) → UnitHolds v inner f (unit_group inner v f)
unfolding unit_group
unit_holds inner v f = record {
  once = λ p.
      times_those p (visible f v) (scan inner)
      ∙ ap (λ (n : ℕ). bit (visible f v p) * n) (scan_once p inner)
      ∙ bit_both (inside inner p) (visible f v p);
  order = refl;
  count = those_count (visible f v) (scan inner);
}

-- The unit quad of an interior voxel lies within a slice of the interior.
pub unit_in_slice : (f : OrientedBlockFace) (inner : Extent) (p : Point) → Inside inner p → InSlice f inner (unit_quad_at p)
unit_in_slice f inner p i =
    let u = i (u_axis f) in
    let v = i (v_axis f) in
    record { minimum_inside = i; some_width = omega arith; some_height = omega arith; within_u = omega arith; within_v = omega arith }
