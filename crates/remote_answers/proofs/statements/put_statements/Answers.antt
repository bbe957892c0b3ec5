use Rattle.std.proofs.Common.{◌≡◌, ◌+◌, List, length, refl, ◌∙◌, subst, arith}
use Rattle.std.specs.Prelude.{slice_get}
use Rattle.std.proofs.lemmas.List.{take_all}
use Rattle.std.proofs.lemmas.Option.{slice_get_read}
use Rattle.catalogue.specs.Named.{NamedTables}
use Rattle.run_base.specs.Seen.{folder_seen}
use Rattle.run_base.specs.declared.bound.Bound.{Bound}
use Rattle.remote_answers.specs.Answered.{StatementTo}
use Rattle.remote_answers.proofs.SoFarLemmas.{SoFar, ended_well, one_kept, one_more, one_stopped, so_far_none}
use Rattle.remote_answers.proofs.statements.put_statements.Goals as goal

pub loop-index-init : goal.loop-index-init
loop-index-init g c = record {
  catalogue = refl;
  holds = refl;
  faults = refl;
  so_far = so_far_none c.args.engine.now.settings.now g.P.Predicates.gives c.args.catalogue.now.tables c.args.remotes.now (g.F.Folder.holds c.args.folder.now) c.args.outputs.now;
}

pub loop-index-preserved : goal.loop-index-preserved
loop-index-preserved g c =
    let s = c.args.engine.now.settings.now in
    let bounds = c.args.bounds.now in
    let i = c.loop-index.index in
    let b = c.index-bounds-index.result in
    let was = c.loop-index.invariant in
    let holds = g.F.Folder.holds c.args.folder.now in
    let at : slice_get bounds i ≡ _ = slice_get_read bounds (length bounds) i b refl c.loop-index-test.true c.index-bounds-index.is in
    let from = folder_seen (g.F.Folder.holds c.loop-index.folder) (g.F.Folder.faults c.loop-index.folder) in
    let to = folder_seen (g.F.Folder.holds c.put_statement.new.folder) (g.F.Folder.faults c.put_statement.new.folder) in
    let told = subst (λ (cat : NamedTables). StatementTo s g.P.Predicates.gives cat.tables c.args.remotes.now (1 + i) b from to c.loop-index.outputs c.put_statement.new.outputs c.put_statement.result) was.catalogue
    c.put_statement.ensures.answered in
    record {
      catalogue = c.put_statement.ensures.catalogue ∙ was.catalogue;
      holds = c.put_statement.ensures.keeps ∙ was.holds;
      faults = one_kept s g.P.Predicates.gives c.args.catalogue.now.tables c.args.remotes.now (1 + i) b from to c.loop-index.outputs c.put_statement.new.outputs c.put_statement.result tt c.in_ok-put_statement.was told ∙ was.faults;
      so_far = one_more s g.P.Predicates.gives c.args.catalogue.now.tables c.args.remotes.now holds bounds i (1 + i) b c.args.outputs.now c.loop-index.outputs c.put_statement.new.outputs from to was.so_far refl at was.holds
          c.put_statement.result tt c.in_ok-put_statement.was told;
    }

pub returns-in_err-put_statement-clause-answered : goal.returns-in_err-put_statement-clause-answered
returns-in_err-put_statement-clause-answered g c =
    let s = c.args.engine.now.settings.now in
    let bounds = c.args.bounds.now in
    let i = c.loop-index.index in
    let b = c.index-bounds-index.result in
    let was = c.loop-index.invariant in
    let holds = g.F.Folder.holds c.args.folder.now in
    let at : slice_get bounds i ≡ _ = slice_get_read bounds (length bounds) i b refl c.loop-index-test.true c.index-bounds-index.is in
    let from = folder_seen (g.F.Folder.holds c.loop-index.folder) (g.F.Folder.faults c.loop-index.folder) in
    let to = folder_seen (g.F.Folder.holds c.put_statement.new.folder) (g.F.Folder.faults c.put_statement.new.folder) in
    let told = subst (λ (cat : NamedTables). StatementTo s g.P.Predicates.gives cat.tables c.args.remotes.now (1 + i) b from to c.loop-index.outputs c.put_statement.new.outputs c.put_statement.result) was.catalogue
    c.put_statement.ensures.answered in
    one_stopped s g.P.Predicates.gives c.args.catalogue.now.tables c.args.remotes.now holds bounds i (1 + i) b c.args.outputs.now c.loop-index.outputs c.put_statement.new.outputs from to was.so_far refl at was.holds
    (folder_seen holds (g.F.Folder.faults c.args.folder.now)) c.put_statement.result c.from_residual.result c.in_err-put_statement.field-0.0 refl was.faults
    c.from_residual.ensures.1 c.in_err-put_statement.was told

pub returns-clause-answered : goal.returns-clause-answered
returns-clause-answered g c =
    let s = c.args.engine.now.settings.now in
    let bounds = c.args.bounds.now in
    let was = c.loop-index.invariant in
    ended_well s g.P.Predicates.gives c.args.catalogue.now.tables c.args.remotes.now
    (folder_seen (g.F.Folder.holds c.args.folder.now) (g.F.Folder.faults c.args.folder.now))
    (folder_seen (g.F.Folder.holds c.loop-index.folder) (g.F.Folder.faults c.loop-index.folder)) bounds c.args.outputs.now c.loop-index.outputs was.faults
    (subst (λ (bs : List Bound). SoFar s g.P.Predicates.gives c.args.catalogue.now.tables c.args.remotes.now (g.F.Folder.holds c.args.folder.now) bs c.args.outputs.now c.loop-index.outputs)
    (take_all c.loop-index.index bounds (omega (arith, c.loop-index-test.false))) was.so_far)
