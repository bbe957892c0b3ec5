use Rattle.std.proofs.Common.{ap, ◌∙◌}
use Rattle.std.proofs.lemmas.Result.{IfOk-weaker}
use Rattle.group_sink.specs.Lines.{lines_of}
use Rattle.run_answers.proofs.AnswerLemmas.{apart_found, members_found}
use Rattle.run_answers.proofs.writing.lines_made.Goals as goal

pub report-requires-clause-apart : goal.report-requires-clause-apart
report-requires-clause-apart g c =
    apart_found g.P.Predicates.gives c.args.block.now c.args.tables.now c.args.combos.now c.requires.found

pub returns : goal.returns
returns g c =
    IfOk-weaker c.report.result _ _
    (λ lines h. h ∙ ap (lines_of c.args.block.now c.args.tables.now c.args.shape.now)
    (members_found g.P.Predicates.gives c.args.block.now c.args.tables.now c.args.combos.now c.requires.shaped.unordered c.requires.found))
    c.report.ensures
