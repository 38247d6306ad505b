-- Laws of faces: the normal on each axis, and when a texture's u is flipped.
use mathlib.Core.Bool.{true, false, not, or-false}
use mathlib.Core.Path.{◌≡◌, refl, ◌∙◌, ap}
use denote.Enum.Bare.{sameb}
use lib.IntN
use lib.IntN.{ℤ, pos, ◌*ℤ◌, *ℤ-one, *ℤ-zero}
use Rattle.geometry.specs.declared.vector.IVec3.{IVec3}
use Rattle.geometry.specs.declared.axis.Axis.{Axis}
use Rattle.geometry.specs.declared.axis.Axis.TheVariants.{X, Y, Z}
use Rattle.geometry.specs.declared.face.OrientedBlockFace.{OrientedBlockFace}
use Rattle.geometry.specs.contracts.axis.Axis.{the_type}
use Rattle.geometry.specs.Point.{unit_vector, same_axis}
use Rattle.geometry.specs.Axes.{positive, negative, times, n_axis}
use Rattle.geometry.specs.Checks.{proper_sign}
use Rattle.geometry.specs.Face.{normal}
use Rattle.geometry.specs.Textures.{flips_u}
use Rattle.geometry.proofs.Signs.{proper_elim}

-- A number on one axis, and zero on the others.
abbrev pub on_axis : ℤ → Axis → IVec3
on_axis s X = record { x = s; y = pos 0; z = pos 0 }
on_axis s Y = record { x = pos 0; y = s; z = pos 0 }
on_axis s Z = record { x = pos 0; y = pos 0; z = s }

times_one : (s : ℤ) → s *ℤ pos 1 ≡ s
unfolding IntN.one
times_one s = *ℤ-one s

times_unit : (s : ℤ) (a : Axis) → times s (unit_vector a) ≡ on_axis s a
times_unit s X = simp (times_one, *ℤ-zero)
times_unit s Y = simp (times_one, *ℤ-zero)
times_unit s Z = simp (times_one, *ℤ-zero)

pub normal_on : (f : OrientedBlockFace) (a : Axis) → n_axis f ≡ a → normal f ≡ on_axis f.n_sign a
normal_on f a e = ap (λ (b : Axis). times f.n_sign (unit_vector b)) e ∙ times_unit f.n_sign a

-- ---- flips

-- Axes are the same where the derived `==` says so.
pub axis_same : (a b : Axis) → sameb the_type a b ≡ same_axis a b
axis_same X X = refl
axis_same X Y = refl
axis_same X Z = refl
axis_same Y X = refl
axis_same Y Y = refl
axis_same Y Z = refl
axis_same Z X = refl
axis_same Z Y = refl
axis_same Z Z = refl

negative_only : (s : ℤ) → proper_sign s ≡ true → negative s ≡ true → positive s ≡ false
negative_only = proper_elim _ (λ h. cc) (λ h. refl)

positive_only : (s : ℤ) → proper_sign s ≡ true → negative s ≡ false → positive s ≡ true
positive_only = proper_elim _ (λ h. refl) (λ h. cc)

module _ (f : OrientedBlockFace) (a : Axis) (p : proper_sign f.n_sign ≡ true) where
  pub flips_negative : negative f.n_sign ≡ true → flips_u f a ≡ not (same_axis a (n_axis f))
  unfolding flips_u
  flips_negative e = simp (e, negative_only _ p e, or-false)

  pub flips_positive : negative f.n_sign ≡ false → flips_u f a ≡ same_axis a (n_axis f)
  unfolding flips_u
  flips_positive e = simp (e, positive_only _ p e)
