-- `count_slice` meets its contract: nothing, one run, or row by row.
use mathlib.Core.Path.{ap}
use Prim.Native.Nat.{ℕ, ◌+◌, ◌-◌, ◌*◌, ◌≤◌}
use native.Mathlib.Omega.{arith}
use Rattle.voxels.specs.Entered.{most_voxels}
use Rattle.simple.specs.declared.rows.Rows.{Rows}
use Rattle.simple.specs.Ready.{offset_of}
use Rattle.simple.proofs.Totals.{rows_at_most}
use Rattle.simple.proofs.Sixes.{counted_none}
use Rattle.simple.proofs.Flat.{long_at_most}
use Rattle.simple.proofs.block.Block.count_slice.Goals as goal
use Rattle.simple.proofs.block.Block.count_slice.Goals.{Else-high-eq0, then-wide-eq0-via-then-wide-eq0, then-wide-eq0-via-else-wide-eq0+then-high-eq0}

-- There the run's length fits.
long_fits : (c : Else-high-eq0) → let a = c.args in (a.rows.high - 1) * a.rows.stride.0 + a.rows.wide ≤ 2 * most_voxels
long_fits c =
    let rows : Rows = c.args.rows in
    let steps = (c.requires.each 0 (omega arith)).steps in
    omega (arith, long_at_most rows.wide rows.stride.0 rows.high steps.apart c.if-high-eq0.false, steps.last)

pub returns-then-wide-eq0 : goal.returns-then-wide-eq0
returns-then-wide-eq0 c =
    let a = c.args in
    counted_none _ c.requires.room.all (λ f.
    let few = rows_at_most a.self.now.voxels.now (offset_of a.self.now.strides f) a.rows a.at.0 in
    elim c.then-wide-eq0.branch [
      | then-wide-eq0-via-then-wide-eq0 w ↦ omega (arith, few, ap (λ (n : ℕ). a.rows.high * n) w.if-wide-eq0.true)
      | then-wide-eq0-via-else-wide-eq0+then-high-eq0 w ↦ omega (arith, few, ap (λ (n : ℕ). n * a.rows.wide) w.if-high-eq0.true)
    ])

pub overflow_add-long : goal.overflow_add-long
overflow_add-long c = record { fits = omega (arith, long_fits (goal.at.overflow_add-long c).Else-high-eq0) }

pub overflow_add-wide : goal.overflow_add-wide
overflow_add-wide c = record { fits = omega (arith, ((c.requires.each 0 (omega arith)).steps.each 0 (omega (arith, c.if-high-eq0.false))).short) }
