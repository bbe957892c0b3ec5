use Rattle.eddy_meaning.specs.Keys.{IsMarked}
use Rattle.worker_meaning.specs.Close.{Seat}
use Rattle.std.specs.List.{flat_map}
use Rattle.worker_meaning.proofs.CloseLemmas.{results_are_credits, workers_complete}
use Rattle.worker_meaning.proofs.ClosingLemmas.{workers_recorded}
use Rattle.worker_meaning.proofs.ClosingTold.{workers_followed}
use Rattle.eddy_runs.proofs.EndLemmas.{results_are_bag}
use Rattle.worker_meaning.proofs.laws.close_laws.Goals as goal

pub returns : goal.returns
returns c = record {
  credits = results_are_credits;
  bag = λ gives kinds block tables fits alias u used scan seats log marks moves ended.
      results_are_bag gives kinds block tables fits (IsMarked marks) log (flat_map (λ (seat : Seat). seat.results) seats) (workers_complete gives block tables seats log marks moves ended) alias u used scan;
  recorded = workers_recorded;
  followed = workers_followed;
}
