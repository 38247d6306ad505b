use Rattle.saved.proofs.Filling.{Filled}
use Rattle.saved.proofs.Writing.{Walked, groups_left}
use Rattle.saved.proofs.write.HandedMesh.file.Given as goal

abbrev pub invariant-loop-count : goal.invariant-loop-count
invariant-loop-count l = Walked l.self.counts l.first l.count-index × Filled (groups_left l.self.form.numbers l.self.quads.now l.self.counts l.first l.count-index) l.groups l.at (groups_left l.self.form.numbers l.self.quads.now l.self.counts 0 0)
