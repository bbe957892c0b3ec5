use Rattle.whole_run.proofs.HeadlineLemmas.{headline_by, headline_named}
use Rattle.whole_run.proofs.program.program.Goals as goal

pub returns : goal.returns
returns g c = record {
  headline = headline_by _ _ _ _ _ _ c.run.result _ c.code_for.ensures
      (headline_named _ _ _ _ _ _ _ c.run.result c.behind_name-words.ensures c.run.ensures.headline);
}
