use Rattle.std.proofs.Common.{List, sym, ap, subst}
use Rattle.bag_meaning.specs.declared.combo.Combo.{Combo}
use Rattle.eddy_runs.specs.Complete.{IsBagOf}
use Rattle.run_base.specs.Items.{item_over}
use Rattle.run_answers.specs.Text.{bound_as, text_by}
use Rattle.run_answers.proofs.PutLemmas.{put_equal}
use Rattle.run_answers.proofs.writing.write_text.Goals as goal

pub write_lines-requires-clause-found : goal.write_lines-requires-clause-found
write_lines-requires-clause-found g c =
    subst (λ (combos : List Combo). IsBagOf g.P.Predicates.gives c.args.statement.now.block.now c.args.statement.now.tables.now combos) (sym c.as_slice.ensures.value) c.requires.found

pub returns-in-None : goal.returns-in-None
returns-in-None g c =
    put_equal _ _ _ _ c.write_rows.result
    (ap (text_by g.P.Predicates.gives (item_over c.args.statement.now.tables.now (bound_as c.args.statement.now.block.now c.args.statement.now.shape.now))) (sym c.in-None.is)) c.write_rows.ensures

pub returns-in-Some : goal.returns-in-Some
returns-in-Some g c =
    put_equal _ _ _ _ c.write_lines.result
    (ap (text_by g.P.Predicates.gives (item_over c.args.statement.now.tables.now (bound_as c.args.statement.now.block.now c.args.statement.now.shape.now))) (sym c.in-Some.is)) c.write_lines.ensures
