-- `run_starts` meets its contract: the cursors so far stand where the runs so far begin.
use mathlib.Core.Path.{◌≡◌, refl, ◌∙◌}
use Prim.Native.Nat.{ℕ, ◌<◌}
use native.Mathlib.Omega.{arith}
use lib.ListN.{length-set}
use Rattle.simple.specs.Kernel.{start_of}
use Rattle.simple.proofs.Sixes.{filled_next, start_next}
use Rattle.simple.proofs.run_starts.Goals as goal

pub loop-f-init : goal.loop-f-init
unfolding start_of
loop-f-init c = (c.requires.0, refl, omega arith, λ g h. let none : ⊥ = omega arith in absurd none)

pub loop-f-preserved : goal.loop-f-preserved
loop-f-preserved c =
    let l = c.loop-f in
    let h = c.requires in
    let taken : l.f < 6 = omega (arith, h.1.all) in
    let room = h.1.each l.f taken in (
      length-set l.cursors l.f l.n ∙ l.invariant.0,
      start_next _ l.f l.n l.invariant.1,
      omega (arith, l.invariant.2),
      filled_next 0 (λ (g n : ℕ). n ≡ start_of c.args.counts.now g) l.cursors l.f l.n (omega (arith, l.invariant.0)) l.invariant.1 l.invariant.3,
    )
