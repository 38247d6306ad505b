-- `faces` meets its contract: each face is what its two numbers stand for.
use Rattle.spunmarrow.specs.Faces.{faces_of}
use Rattle.spunmarrow.proofs.numbers.faces.Goals as goal

pub returns : goal.returns
unfolding faces_of
returns c = rw (c.face_at.ensures, c.face_at-2.ensures, c.face_at-3.ensures, c.face_at-4.ensures, c.face_at-5.ensures, c.face_at-6.ensures)
