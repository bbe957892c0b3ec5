use Rattle.std.proofs.Common.{refl}
use Rattle.std.specs.List.{flat_map}
use Rattle.run_base.specs.Items.{item_over, items_over}
use Rattle.run_answers.specs.Tally.{IsTally}
use Rattle.run_answers.specs.Text.{behind_line}
use Rattle.run_answers.proofs.ItemLemmas.{item_within, item_at}
use Rattle.run_answers.proofs.ProgressLemmas.{answers_stopped, answers_next, answers_nothing, answers_through}
use Rattle.run_answers.proofs.TextLemmas.{texts_behind}
use Rattle.run_answers.proofs.answering.put_more.Goals as goal

pub loop-index-init : goal.loop-index-init
loop-index-init g c = answers_nothing c.args.engine.now.settings.now.tally (IsTally c.args.engine.now.settings.now.cache g.P.Predicates.gives) 2 _ _ refl

pub loop-index-preserved : goal.loop-index-preserved
loop-index-preserved g c =
    answers_next c.args.engine.now.settings.now.tally (IsTally c.args.engine.now.settings.now.cache g.P.Predicates.gives) 2 (λ n. behind_line g.P.Predicates.gives)
    (λ n. flat_map (behind_line g.P.Predicates.gives)) (items_over c.args.tables.now c.args.bounds.now) c.loop-index.index
    (item_over c.args.tables.now c.index-bounds-index.result) _ _ _ c.put_separated.result (texts_behind g.P.Predicates.gives)
    (item_within c.args.tables.now c.args.bounds.now c.loop-index.index c.loop-index-test.true)
    (item_at c.args.tables.now c.args.bounds.now c.loop-index.index c.index-bounds-index.result c.loop-index-test.true c.index-bounds-index.is)
    c.loop-index.invariant c.put_separated.ensures c.in_ok-put_separated.was

pub returns-in_err-put_separated : goal.returns-in_err-put_separated
returns-in_err-put_separated g c =
    answers_through c.args.engine.now.settings.now.tally (IsTally c.args.engine.now.settings.now.cache g.P.Predicates.gives) 2 (items_over c.args.tables.now c.args.bounds.now) _ _ _
    c.from_residual.result c.in_err-put_separated.field-0.0 c.from_residual.ensures.1
    (answers_stopped c.args.engine.now.settings.now.tally (IsTally c.args.engine.now.settings.now.cache g.P.Predicates.gives) 2 (λ n. behind_line g.P.Predicates.gives)
    (λ n. flat_map (behind_line g.P.Predicates.gives)) (items_over c.args.tables.now c.args.bounds.now) c.loop-index.index
    (item_over c.args.tables.now c.index-bounds-index.result) _ _ _ c.put_separated.result c.in_err-put_separated.field-0.0 (texts_behind g.P.Predicates.gives)
    (item_within c.args.tables.now c.args.bounds.now c.loop-index.index c.loop-index-test.true)
    (item_at c.args.tables.now c.args.bounds.now c.loop-index.index c.index-bounds-index.result c.loop-index-test.true c.index-bounds-index.is)
    c.loop-index.invariant c.put_separated.ensures c.in_err-put_separated.was)
