-- Steps along a face's u and v from a point: its coordinates, its index, and that with the room for it it stays in an extent.
use mathlib.Core.Path.{◌≡◌, ◌∙◌, ap}
use Prim.Native.Nat.{ℕ, ◌+◌, ◌*◌, ◌≤◌, ◌<◌}
use native.Mathlib.Omega.{arith}
use Rattle.geometry.specs.declared.axis.Axis.{Axis}
use Rattle.geometry.specs.declared.face.OrientedBlockFace.{OrientedBlockFace}
use Rattle.geometry.specs.Point.{Point, along, moved}
use Rattle.geometry.specs.Axes.{axes_of, n_axis, u_axis, v_axis}
use Rattle.geometry.proofs.Frame.{Frame, frame, moved_on, moved_off}
use Rattle.voxels.specs.declared.extent.Extent.{Extent}
use Rattle.voxels.specs.Shape.{index, stride}
use Rattle.voxels.specs.Extent.{Inside}
use Rattle.voxels.proofs.Places.{index_moved}
use Rattle.rules.specs.Group.{room_u, room_v}

module _ (f : OrientedBlockFace) where
  -- A point, i steps along u and j along v from another.
  abbrev pub spread : ℕ → ℕ → Point → Point
  spread i j p = moved (u_axis f) i (moved (v_axis f) j p)

  abbrev F : Frame (axes_of f.permutation)
  F = frame f.permutation

  pub spread_n : (i j : ℕ) (p : Point) → along (n_axis f) (spread i j p) ≡ along (n_axis f) p
  spread_n i j p = moved_off (n_axis f) (u_axis f) F.nu i (moved (v_axis f) j p) ∙ moved_off (n_axis f) (v_axis f) F.nv j p

  pub spread_u : (i j : ℕ) (p : Point) → along (u_axis f) (spread i j p) ≡ along (u_axis f) p + i
  spread_u i j p = moved_on (u_axis f) i (moved (v_axis f) j p) ∙ ap (λ (k : ℕ). k + i) (moved_off (u_axis f) (v_axis f) F.uv j p)

  pub spread_v : (i j : ℕ) (p : Point) → along (v_axis f) (spread i j p) ≡ along (v_axis f) p + j
  spread_v i j p = moved_off (v_axis f) (u_axis f) F.vu i (moved (v_axis f) j p) ∙ moved_on (v_axis f) j p

  pub spread_index : (shape : Point) (i j : ℕ) (p : Point) → index shape (spread i j p) ≡ index shape p + j * stride shape (v_axis f) + i * stride shape (u_axis f)
  spread_index shape i j p = index_moved shape (u_axis f) i (moved (v_axis f) j p) ∙ ap (λ (k : ℕ). k + i * stride shape (u_axis f)) (index_moved shape (v_axis f) j p)

  -- With the room for it, it stays in an extent.
  pub spread_inside : (e : Extent) (i j : ℕ) (p : Point) → Inside e p → i < room_u f e p → j < room_v f e p → Inside e (spread i j p)
  spread_inside e i j p h li lj =
      let hn = h (n_axis f) in
      let hu = h (u_axis f) in
      let hv = h (v_axis f) in
      F.every (λ (a : Axis). (along a e.minimum ≤ along a (spread i j p)) × (along a (spread i j p) < along a e.bound))
      (rw (spread_n i j p) hn)
      (rw (spread_u i j p) (omega arith, omega arith))
      (rw (spread_v i j p) (omega arith, omega arith))
