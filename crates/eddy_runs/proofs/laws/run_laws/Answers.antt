use Rattle.eddy_runs.specs.State.{IsAsked}
use Rattle.eddy_runs.proofs.ReachedLemmas.{reached_start, reached_step, reached}
use Rattle.eddy_runs.proofs.ToldLemmas.{recorded}
use Rattle.eddy_runs.proofs.FollowedEnd.{followed}
use Rattle.eddy_runs.proofs.EndLemmas.{results_are_bag, core_complete}
use Rattle.eddy_runs.proofs.laws.run_laws.Goals as goal

pub returns : goal.returns
returns c = record {
  start = reached_start;
  step = λ gives kinds block tables fits. reached_step gives block tables kinds fits;
  run = λ gives kinds block tables fits. reached gives block tables kinds fits;
  end = λ gives kinds block tables fits alias u used scan s h ends.
      results_are_bag gives kinds block tables fits (IsAsked s.asked) s.log s.results
      (core_complete gives kinds block tables fits s h.keeps ends) alias u used scan;
  recorded = recorded;
  followed = followed;
}
