use Rattle.std.proofs.Common.{List, ap, sym, subst, ◌∙◌}
use Rattle.catalogue.specs.Named.{NamedTables}
use Rattle.sq_value.specs.Relation.{Relation}
use Rattle.run_answers.specs.Answering.{AnswersOne}
use Rattle.run_answers.specs.Tally.{IsTally}
use Rattle.run_answers.specs.Text.{numbered_text}
use Rattle.run_base.specs.Items.{item_over}
use Rattle.run_base.specs.Runnable.{IsRunnable}
use Rattle.run_base.proofs.ExchangeLemmas.{still_runnable}
use Rattle.remote_lookup.specs.Filled.{exchanged}
use Rattle.remote_answers.specs.Exchanged.{HaveColumns, HaveTables}
use Rattle.remote_answers.proofs.PlaceLemmas.{catalogue_back, columns_back, exchanged_headings, have_exchanged}
use Rattle.remote_answers.proofs.statements.put_over.Goals as goal

pub put_numbered-put-requires-clause-runs : goal.put_numbered-put-requires-clause-runs
put_numbered-put-requires-clause-runs g c κs within =
    let tables = c.args.catalogue.now.tables in
    let over = exchanged tables c.args.remotes.now c.args.tables.items in
    let kinds = g.P.Predicates.kinds_of c.args.engine.now.functions.now in
    let there = ap (λ (cat : NamedTables). cat.tables) c.exchange.ensures.exchanged in
    subst (λ (ts : List Relation). IsRunnable kinds ts c.args.bound.now) (sym (c.tables.ensures ∙ there))
    (still_runnable kinds tables over (sym (exchanged_headings tables c.args.remotes.now c.args.tables.items c.requires.columns)) c.args.bound.now c.requires.runs)

pub exchange-requires-2-clause-places : goal.exchange-requires-2-clause-places
exchange-requires-2-clause-places g c =
    subst (λ (cat : NamedTables). HaveTables cat.tables c.args.remotes.now) (sym c.exchange.ensures.exchanged)
    (have_exchanged c.args.catalogue.now.tables c.args.remotes.now c.args.tables.items c.requires.places)

pub exchange-requires-2-clause-columns : goal.exchange-requires-2-clause-columns
exchange-requires-2-clause-columns g c =
    subst (λ (cat : NamedTables). HaveColumns cat.tables c.args.remotes.now c.exchange.new.tables.items) (sym c.exchange.ensures.exchanged)
    (columns_back c.args.catalogue.now.tables c.args.remotes.now c.args.tables.items c.exchange.new.tables.items c.requires.columns c.exchange.ensures.given)

pub returns-clause-catalogue : goal.returns-clause-catalogue
returns-clause-catalogue g c =
    catalogue_back c.args.catalogue.now c.exchange.new.catalogue c.exchange-2.new.catalogue c.args.remotes.now c.args.tables.items c.exchange.new.tables.items
    c.requires.places c.requires.columns c.exchange.ensures.exchanged c.exchange.ensures.given c.exchange-2.ensures.exchanged

pub returns-clause-put : goal.returns-clause-put
returns-clause-put g c =
    let s = c.args.engine.now.settings.now in
    let there = ap (λ (cat : NamedTables). cat.tables) c.exchange.ensures.exchanged in
    subst (λ (ts : List Relation). AnswersOne s.tally (IsTally s.cache g.P.Predicates.gives) c.args.number (item_over ts c.args.bound.now)
    (numbered_text g.P.Predicates.gives c.args.number (item_over ts c.args.bound.now)) c.args.outputs.now c.put_numbered-put.new.outputs c.put_numbered-put.result) (c.tables.ensures ∙ there)
    c.put_numbered-put.ensures
