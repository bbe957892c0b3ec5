use Rattle.std.proofs.Common.{List, subst}
use Rattle.sq_value.specs.Relation.{Relation}
use Rattle.run_base.specs.Seen.{folder_seen}
use Rattle.remote_lookup.specs.Loaded.{AnswersOver}
use Rattle.remote_answers.proofs.LoadedLemmas.{ran_done, ran_stopped}
use Rattle.remote_answers.proofs.statements.put_statement.Goals as goal

pub returns-in-Ok-put_over-clause-answered : goal.returns-in-Ok-put_over-clause-answered
returns-in-Ok-put_over-clause-answered g c =
    let s = c.args.engine.now.settings.now in
    let gives = g.P.Predicates.gives in
    let tables = c.args.catalogue.now.tables in
    let remotes = c.args.remotes.now in
    let b = c.args.bound.now in
    let holds = g.F.Folder.holds c.args.folder.now in
    ran_done s gives tables remotes c.args.number b (folder_seen holds (g.F.Folder.faults c.args.folder.now))
    (folder_seen (g.F.Folder.holds c.load_needed.new.folder) (g.F.Folder.faults c.load_needed.new.folder)) c.args.outputs.now c.put_over.new.outputs
    c.in-Ok.field-0 c.load_needed.result c.in-Ok.is
    (subst (λ (ts : List Relation). AnswersOver gives b.block ts remotes holds c.load_needed.result) c.tables-tables.ensures c.load_needed.ensures.answered)
    c.requires.remotes.differ c.in-Ok.ensures.kept tt c.put_over.result c.in-Ok-put_over.is
    c.put_over.ensures.put

pub returns-in-Ok-clause-answered : goal.returns-in-Ok-clause-answered
returns-in-Ok-clause-answered g c =
    let s = c.args.engine.now.settings.now in
    let gives = g.P.Predicates.gives in
    let tables = c.args.catalogue.now.tables in
    let remotes = c.args.remotes.now in
    let b = c.args.bound.now in
    let holds = g.F.Folder.holds c.args.folder.now in
    ran_stopped s gives tables remotes c.args.number b (folder_seen holds (g.F.Folder.faults c.args.folder.now))
    (folder_seen (g.F.Folder.holds c.load_needed.new.folder) (g.F.Folder.faults c.load_needed.new.folder)) c.args.outputs.now c.put_over.new.outputs
    c.in-Ok.field-0 c.load_needed.result c.in-Ok.is
    (subst (λ (ts : List Relation). AnswersOver gives b.block ts remotes holds c.load_needed.result) c.tables-tables.ensures c.load_needed.ensures.answered)
    c.requires.remotes.differ c.in-Ok.ensures.kept c.in-Err-put_over.stop c.put_over.result c.in-Err-put_over.is
    c.put_over.ensures.put
