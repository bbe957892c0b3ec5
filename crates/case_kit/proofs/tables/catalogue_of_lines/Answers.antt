use Rattle.std.proofs.Common.{◌∙◌, sym}
use Rattle.case_kit.proofs.LineLaws.{next_line, no_more_lines}
use Rattle.case_kit.proofs.tables.catalogue_of_lines.Goals as goal

pub loop-line-preserved : goal.loop-line-preserved
loop-line-preserved c =
    sym (next_line c.deref-line-items.result.now c.loop-line.line-index _ c.loop-line.catalogue _ c.loop-line-test.true c.in-Ok.ensures.ok)
    ∙ c.loop-line.invariant

pub returns-clause-ok : goal.returns-clause-ok
returns-clause-ok c =
    sym c.loop-line.invariant
    ∙ no_more_lines c.deref-line-items.result.now c.loop-line.line-index c.loop-line.catalogue c.loop-line-test.false
