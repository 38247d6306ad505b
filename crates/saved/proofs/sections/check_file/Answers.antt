-- `check_file` meets its contract: section 0 refuses, or the others decide.
use Rattle.saved.specs.Private.{form_of}
use Rattle.saved.proofs.Places.{file_refused, file_goes_on}
use Rattle.saved.proofs.sections.check_file.Goals as goal

pub returns-in-Some : goal.returns-in-Some
returns-in-Some c = file_goes_on (form_of c.args.form) c.args.bytes.now c.in-Some.ensures.0 c.in-Some.ensures.1 (rw c.quad_size.ensures at c.check_sections.ensures)

pub returns-in-None : goal.returns-in-None
returns-in-None c = rw c.at.ensures (file_refused (form_of c.args.form) c.args.bytes.now c.in-None.ensures)
