use Rattle.std.proofs.Common.{refl}
use Rattle.whole_run.proofs.RunLemmas.{finished_by, finished_by_notes}
use Rattle.whole_run.proofs.run.run_noted.Goals as goal

pub returns-in-By-clause-finished : goal.returns-in-By-clause-finished
returns-in-By-clause-finished g c =
    λ words e. finished_by _ words c.args.request.now _ _ _ c.run_query.result c.in-By.status c.note.result _ _ c.in-By.is e
    (c.run_query.ensures.ran words e) c.tables.ensures c.remotes.ensures refl c.note.ensures.out c.note.ensures.notes

pub returns-in-ByNotes-clause-finished : goal.returns-in-ByNotes-clause-finished
returns-in-ByNotes-clause-finished g c =
    λ words e. finished_by_notes _ words c.args.request.now _ _ c.run_query.result c.in-ByNotes.is e (c.run_query.ensures.ran words e)
