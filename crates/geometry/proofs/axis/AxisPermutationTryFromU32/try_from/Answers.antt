-- A permutation from a number meets its contract: an arm's number is its permutation's, and what is left is 6 or more.
use native.Mathlib.Omega.{arith}
use Rattle.geometry.specs.declared.axis.AxisPermutation.TheVariants.{Xyz, Zxy, Yzx, Zyx, Xzy, Yxz}
use Rattle.geometry.proofs.Axes.{number_is, number_none}
use Rattle.geometry.proofs.axis.AxisPermutationTryFromU32.try_from.Goals as goal

pub returns-in-0 : goal.returns-in-0
returns-in-0 c = number_is Xyz c.in-0.is

pub returns-in-1 : goal.returns-in-1
returns-in-1 c = number_is Zxy c.in-1.is

pub returns-in-2 : goal.returns-in-2
returns-in-2 c = number_is Yzx c.in-2.is

pub returns-in-3 : goal.returns-in-3
returns-in-3 c = number_is Zyx c.in-3.is

pub returns-in-4 : goal.returns-in-4
returns-in-4 c = number_is Xzy c.in-4.is

pub returns-in-5 : goal.returns-in-5
returns-in-5 c = number_is Yxz c.in-5.is

pub returns-in_default : goal.returns-in_default
returns-in_default c = rw c.at.ensures (number_none (omega arith))
