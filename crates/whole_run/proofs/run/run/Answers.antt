use Rattle.whole_run.proofs.HeadlineLemmas.{headline_of}
use Rattle.whole_run.proofs.run.run.Goals as goal

pub returns : goal.returns
returns g c = record {
  headline = headline_of _ _ _ _ _ _ c.run_words.result c.run_words.ensures.finished c.run_words.ensures.untouched;
}
