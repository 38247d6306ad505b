-- Laws of corners: where the base and every corner lie along n, u and v, and that no corner is past the largest axis.
use mathlib.Core.Bool.{true, false}
use mathlib.Core.Path.{◌≡◌, refl}
use Prim.Native.Nat.{ℕ, ◌+◌}
use native.Mathlib.Omega.{arith}
use Rattle.geometry.specs.declared.quad.UnorientedQuad.{UnorientedQuad}
use Rattle.geometry.specs.declared.face.OrientedBlockFace.{OrientedBlockFace}
use Rattle.geometry.specs.declared.face.Corner.{Corner}
use Rattle.geometry.specs.declared.face.Corner.TheVariants.{MinuMinv, MaxuMinv, MinuMaxv, MaxuMaxv}
use Rattle.geometry.specs.Point.{Point, along, moved}
use Rattle.geometry.specs.Axes.{positive, bit, n_axis, u_axis, v_axis}
use Rattle.geometry.specs.Quad.{largest_axis}
use Rattle.geometry.specs.Corners.{base, corner}
use Rattle.geometry.specs.Inner.{AtMost, WithinBounds}
use Rattle.geometry.proofs.Frame.{frame, moved_none, moved_on, moved_off, moved_at_most}
use Rattle.geometry.proofs.Tests.{bit_at_most}

module _ (f : OrientedBlockFace) (q : UnorientedQuad) where
  -- The base of a face on the positive side is one up along n,
  pub base_up : positive f.n_sign ≡ true → base f q ≡ moved (n_axis f) 1 q.minimum
  unfolding base
  base_up e = simp e

  -- and that of another is the minimum.
  pub base_down : positive f.n_sign ≡ false → base f q ≡ q.minimum
  unfolding base
  base_down e = simp (e, moved_none)

  -- Along u and v the base lies where the minimum does,
  pub base_u : along (u_axis f) (base f q) ≡ along (u_axis f) q.minimum
  unfolding base
  base_u = moved_off (u_axis f) (n_axis f) (frame f.permutation).un _ q.minimum

  pub base_v : along (v_axis f) (base f q) ≡ along (v_axis f) q.minimum
  unfolding base
  base_v = moved_off (v_axis f) (n_axis f) (frame f.permutation).vn _ q.minimum

  -- and a step along u leaves v alone.
  pub v_by_u : (k : ℕ) (p : Point) → along (v_axis f) (moved (u_axis f) k p) ≡ along (v_axis f) p
  v_by_u = moved_off (v_axis f) (u_axis f) (frame f.permutation).vu

  -- A corner is so far from the base along u,
  abbrev pub far_u : Corner → ℕ
  far_u MinuMinv = 0
  far_u MaxuMinv = q.width
  far_u MinuMaxv = 0
  far_u MaxuMaxv = q.width

  -- and so far along v:
  abbrev pub far_v : Corner → ℕ
  far_v MinuMinv = 0
  far_v MaxuMinv = 0
  far_v MinuMaxv = q.height
  far_v MaxuMaxv = q.height

  -- those steps lead to it,
  corner_is : (c : Corner) → corner f q c ≡ moved (v_axis f) (far_v c) (moved (u_axis f) (far_u c) (base f q))
  unfolding corner
  corner_is MinuMinv = simp moved_none
  corner_is MaxuMinv = simp moved_none
  corner_is MinuMaxv = simp moved_none
  corner_is MaxuMaxv = refl

  -- and so this is where it lies along n, u and v.
  pub corner_n : (c : Corner) → along (n_axis f) (corner f q c) ≡ along (n_axis f) q.minimum + bit (positive f.n_sign)
  unfolding base
  corner_n c =
      let F = frame f.permutation in
      rw (corner_is c, moved_off (n_axis f) (v_axis f) F.nv, moved_off (n_axis f) (u_axis f) F.nu, moved_on)

  pub corner_u : (c : Corner) → along (u_axis f) (corner f q c) ≡ along (u_axis f) q.minimum + far_u c
  corner_u c = let F = frame f.permutation in rw (corner_is c, moved_off (u_axis f) (v_axis f) F.uv, moved_on, base_u)

  pub corner_v : (c : Corner) → along (v_axis f) (corner f q c) ≡ along (v_axis f) q.minimum + far_v c
  corner_v c = rw (corner_is c, moved_on, v_by_u (far_u c) (base f q), base_v)

  module _ (w : WithinBounds f q) where
    base_at_most : AtMost largest_axis (base f q)
    unfolding base
    base_at_most =
        moved_at_most (n_axis f) (bit (positive f.n_sign)) largest_axis q.minimum (λ a. omega (arith, w.least a))
        (omega (arith, w.least (n_axis f), bit_at_most (positive f.n_sign)))

    wide_at_most : AtMost largest_axis (moved (u_axis f) q.width (base f q))
    wide_at_most = moved_at_most (u_axis f) q.width largest_axis (base f q) base_at_most (omega (arith, base_u))

    -- No corner is past the largest axis: the base is not, and each step along u or v ends within it.
    pub corner_at_most : (c : Corner) → AtMost largest_axis (corner f q c)
    unfolding corner
    corner_at_most MinuMinv = base_at_most
    corner_at_most MaxuMinv = wide_at_most
    corner_at_most MinuMaxv = moved_at_most (v_axis f) q.height largest_axis (base f q) base_at_most (omega (arith, base_v))
    corner_at_most MaxuMaxv =
        moved_at_most (v_axis f) q.height largest_axis (moved (u_axis f) q.width (base f q)) wide_at_most
        (omega (arith, base_v, v_by_u q.width (base f q)))
