-- `first_bad` meets its contract: the voxels that are left decide as the whole row does.
use Rattle.std.proofs.Common.{◌-◌, arith}
use native.Mathlib.Nat.{add-sub_cancel_left}
use Rattle.voxels.specs.Rows.{bad_at, row}
use Rattle.voxels.proofs.Asked.{ask_on, ask_stops, ask_done, good_here, bad_here}
use Rattle.voxels.proofs.bounds.first_bad.Goals as goal

pub loop-i-init : goal.loop-i-init
unfolding row
loop-i-init c = let s = c.args in rw (add-sub_cancel_left s.start.0 s.wide)

pub bounds-voxels-i : goal.bounds-voxels-i
bounds-voxels-i c =
    let s = c.args in
    omega (arith, c.requires (c.loop-i.i - s.start.0) (omega arith))

pub returns-then-class-eq-BAD : goal.returns-then-class-eq-BAD
returns-then-class-eq-BAD c =
    let vs = c.args.voxels.now in
    rw c.at.ensures (ask_stops 1 (bad_at vs) _ _ _ c.loop-i.invariant c.loop-i-test.true (bad_here vs _ c.class.ensures c.if-class-eq-BAD.true))

pub loop-i-preserved : goal.loop-i-preserved
loop-i-preserved c =
    let vs = c.args.voxels.now in
    let kept = c.loop-i.invariant in
    ask_on 1 (bad_at vs) _ _ _ kept c.loop-i-test.true (good_here vs _ c.class.ensures c.if-class-eq-BAD.false)

pub returns : goal.returns
returns c = ask_done 1 (bad_at c.args.voxels.now) _ _ _ c.loop-i.invariant (omega arith)
