-- `OrientedBlockFace::mesh_normal` meets its contract: each part of the normal is -1, 0 or 1, and so an f32 exactly.
use Rattle.geometry.specs.Axes.{n_axis}
use Prim.Native.Nat.{ℕ, ◌≤◌}
use lib.IntN.{pos, ◌*ℤ◌}
use mathlib.Core.Path.{◌≡◌}
use mir.Syntax.{w32}
use mir.Val.{to_z, of_z}
use Rattle.geometry.proofs.Floats.{part_exact, unit_parts}
use Rattle.geometry.proofs.face.OrientedBlockFace.mesh_normal.Goals as goal

pub int_to_float-x : goal.int_to_float-x
int_to_float-x c =
    let f = c.args.self in
    let e = part_exact _ (unit_parts (n_axis f)).0 f.n_sign c.requires in
    rw (c.normal-v.ensures, e.0) e.1

pub int_to_float-y : goal.int_to_float-y
int_to_float-y c =
    let f = c.args.self in
    let e = part_exact _ (unit_parts (n_axis f)).1 f.n_sign c.requires in
    rw (c.normal-v.ensures, e.0) e.1

pub int_to_float-z : goal.int_to_float-z
int_to_float-z c =
    let f = c.args.self in
    let e = part_exact _ (unit_parts (n_axis f)).2 f.n_sign c.requires in
    rw (c.normal-v.ensures, e.0) e.1

pub returns : goal.returns
returns c =
    let s = c.args.self.n_sign in
    let u = unit_parts (n_axis c.args.self) in
    let e : (k : ℕ) → k ≤ 1 → to_z w32 (of_z w32 (s *ℤ pos k)) ≡ s *ℤ pos k = λ k h. (part_exact k h s c.requires).0 in
    simp (c.normal-v.ensures, e _ u.0, e _ u.1, e _ u.2)
