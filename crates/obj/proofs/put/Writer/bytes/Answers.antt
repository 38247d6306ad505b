-- `bytes` meets its contract: one is written after the other.
use mathlib.Core.Path.{refl}
use native.Mathlib.Numerals.{add-one}
use native.Mathlib.Omega.{arith}
use lib.Seq.{drop-cons}
use Rattle.obj.proofs.Writer.{wrote_byte, leads_start, leads_on}
use Rattle.obj.proofs.put.Writer.bytes.Goals as goal

pub loop-byte-init : goal.loop-byte-init
loop-byte-init c = leads_start refl

pub loop-byte-preserved : goal.loop-byte-preserved
loop-byte-preserved c = let l = c.loop-byte in rw (add-one l.byte-index) (leads_on l.invariant (drop-cons c.args.new.now l.byte-index 0 (omega arith)) (wrote_byte _ _))
