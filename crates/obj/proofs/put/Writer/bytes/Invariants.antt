use lib.ListN.{drop}
use Rattle.obj.proofs.Writer.{Leads}
use Rattle.obj.proofs.put.Writer.bytes.Given as goal

abbrev pub invariant-loop-byte : goal.invariant-loop-byte
invariant-loop-byte l = Leads (drop l.byte-index l.new) l.self l.new l.initial.self
