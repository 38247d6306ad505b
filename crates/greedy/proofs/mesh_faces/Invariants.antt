use Rattle.greedy.proofs.Six.{SixMeshing}
use Rattle.greedy.proofs.mesh_faces.Given as goal

abbrev pub invariant-loop-k : goal.invariant-loop-k
invariant-loop-k l = SixMeshing l.face-items l.initial.mesher l.mesher l.counts l.k
