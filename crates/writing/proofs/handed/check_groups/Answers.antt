-- `check_groups` meets its contract: the groups that are left decide as all do.
use mathlib.Core.Path.{sym, ◌∙◌, ap}
use native.Mathlib.Omega.{arith}
use lib.ListN.{length}
use Rattle.geometry.specs.Refusal.{checked}
use Rattle.geometry.proofs.Answers.{handed_on}
use Rattle.writing.specs.Handed.{bad_quad_at}
use Rattle.writing.proofs.Rest.{walking_start, walking_most, walking_on, groups_start, capacity_most}
use Rattle.writing.proofs.Checking.{group_on, group_stops, groups_pass}
use Rattle.writing.proofs.handed.check_groups.Goals as goal

pub loop-k-init : goal.loop-k-init
loop-k-init c = (walking_start c.well_formed.0.1.0.1 c.well_formed.1.0.1.0.1, ap checked (groups_start bad_quad_at _ _ _ _))

pub check_group-requires : goal.check_group-requires
check_group-requires c = record { le_numbers = c.requires.le_numbers; count_bound = omega (arith, walking_most c.loop-k.invariant.0 c.loop-k-test.true, c.requires.counts_bound) }

pub returns-in_err-check_group : goal.returns-in_err-check_group
returns-in_err-check_group c =
    let l = c.loop-k in
    handed_on _ _ c.from_residual.ensures.1 ∙ group_stops _ _ l.invariant.0 l.invariant.1 _ c.loop-k-test.true (sym c.in_err-check_group.ensures)

pub overflow_add-first : goal.overflow_add-first
overflow_add-first c = record { fits = omega (arith, walking_most c.loop-k.invariant.0 c.loop-k-test.true, c.requires.counts_bound, capacity_most c.args.numbers (length c.args.quads.now) (omega (arith, c.requires.le_numbers))) }

pub loop-k-preserved : goal.loop-k-preserved
loop-k-preserved c =
    let l = c.loop-k in
    (walking_on l.invariant.0 c.loop-k-test.true, group_on _ _ l.invariant.0 l.invariant.1 _ c.loop-k-test.true (sym c.in_ok-check_group.ensures))

pub returns : goal.returns
returns c = groups_pass _ _ c.loop-k.invariant.0 c.loop-k.invariant.1 c.loop-k-test.false
