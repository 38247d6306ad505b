-- Check 12 of a quad by its numbers where they stand in a file.
use mathlib.Core.Bool.{Bool, true, false, ◌&&◌}
use mathlib.Core.List.{List, [], ◌∷◌}
use mathlib.Core.Path.{◌≡◌, refl, sym, ◌∙◌}
use Rattle.std.proofs.Common.{add-one}
use Prim.Native.Nat.{ℕ, ◌-◌, ◌*◌}
use lib.Dec.{leb, leb-suc-suc}
use lib.ListN.{drop}
use Rattle.geometry.specs.declared.axis.Axis.{Axis}
use Rattle.geometry.specs.declared.axis.Axis.TheVariants.{X, Y, Z}
use Rattle.geometry.specs.declared.axis.Axes.{Axes}
use Rattle.geometry.specs.declared.quad.UnorientedQuad.{UnorientedQuad}
use Rattle.geometry.specs.declared.face.OrientedBlockFace.{OrientedBlockFace}
use Rattle.geometry.specs.Point.{Point, at, along, axis_number}
use Rattle.geometry.specs.Axes.{axes_of}
use Rattle.geometry.specs.Quad.{largest_axis, minimum_within_limits, side_within_limits, within_limits}
use Rattle.geometry.specs.Checks.{bad_quad}
use Rattle.geometry.specs.Refusal.{accepted, refused, checked}
use Rattle.geometry.proofs.Refusals.{applies, passes_alone}
use Rattle.saved.specs.Bytes.{number32}
use Rattle.saved.specs.Private.{quad_of, fits_in}
use Rattle.saved.proofs.Pieces.{quad_made}

module _ (b : List ℕ) where
  -- The point of the first three numbers.
  abbrev point : Point
  point = at (number32 b) (number32 (drop 4 b)) (number32 (drop 8 b))

  -- A coordinate stands where its axis says.
  along_stands : (a : Axis) → number32 (drop (4 * axis_number a) b) ≡ along a point
  unfolding along
  along_stands X = refl
  along_stands Y = refl
  along_stands Z = refl

  -- A coordinate is within the limits where a side of 1 is.
  coordinate : (x : ℕ) → side_within_limits x 1 ≡ leb x (largest_axis - 1)
  unfolding side_within_limits
  coordinate x = rw add-one (leb-suc-suc x (largest_axis - 1))

  minimum_fits : (side_within_limits point.x 1 && side_within_limits point.y 1 && side_within_limits point.z 1) ≡ minimum_within_limits point
  unfolding minimum_within_limits
  minimum_fits = rw (coordinate point.x, coordinate point.y, coordinate point.z)

  -- So its numbers tell whether a quad is within the limits.
  pub fits_limits : (a : Axes) {u v : ℕ} → u ≡ 4 * axis_number a.u → v ≡ 4 * axis_number a.v → fits_in b u v ≡ within_limits a (quad_of b)
  unfolding fits_in within_limits
  fits_limits a is-u is-v = rw (is-u, is-v, along_stands a.u, along_stands a.v, minimum_fits, ← quad_made b)

-- A quad within the limits passes check 12,
pub within_passes : (f : OrientedBlockFace) (q : UnorientedQuad) {t : Bool} → t ≡ within_limits (axes_of f.permutation) q → t ≡ true → checked (bad_quad f q ∷ []) ≡ accepted tt
within_passes f q is e = passes_alone (bad_quad f q) (rw (sym is ∙ e))

-- and another is refused.
pub outside_refused : (f : OrientedBlockFace) (q : UnorientedQuad) {t : Bool} → t ≡ within_limits (axes_of f.permutation) q → t ≡ false → checked (bad_quad f q ∷ []) ≡ refused 12 0
outside_refused f q is e = applies (bad_quad f q) [] tt (rw (sym is ∙ e))
