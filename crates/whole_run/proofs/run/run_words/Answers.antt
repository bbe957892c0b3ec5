use Rattle.whole_run.proofs.AskedLemmas.{fileless_by}
use Rattle.whole_run.proofs.RunLemmas.{finished_usage}
use Rattle.whole_run.proofs.run.run_words.Goals as goal

pub returns-in-Err-clause-finished : goal.returns-in-Err-clause-finished
returns-in-Err-clause-finished g c =
    finished_usage _ _ _ _ _ c.in-Err.refusal c.note.result c.in-Err.ensures.refused c.note.ensures.out c.note.ensures.notes

pub returns-in-Ok-clause-untouched : goal.returns-in-Ok-clause-untouched
returns-in-Ok-clause-untouched g c = λ e. c.run_noted.ensures.untouched (fileless_by _ c.in-Ok.request c.in-Ok.ensures.ok e)
