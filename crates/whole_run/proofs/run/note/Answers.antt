use Rattle.std.proofs.Common.{refl}
use Rattle.whole_run.proofs.run.note.Goals as goal

pub returns-clause-out : goal.returns-clause-out
returns-clause-out g c = rw (← c.outputs.view_is) refl

pub returns-clause-notes : goal.returns-clause-notes
returns-clause-notes g c = rw (← c.outputs.view_is) c.put_note.ensures
