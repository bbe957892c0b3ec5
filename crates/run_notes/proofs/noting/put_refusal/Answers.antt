use Rattle.run_notes.specs.Note.{line_of}
use Rattle.run_notes.proofs.noting.put_refusal.Goals as goal

pub returns-in-Err-clause-noted : goal.returns-in-Err-clause-noted
unfolding line_of
returns-in-Err-clause-noted g c = c.put_line-in-Err.ensures
