use Rattle.eddy_meaning.specs.Keys.{IsMarked}
use Rattle.eddy_meaning.proofs.StepLemmas.{route_facts}
use Rattle.eddy_meaning.proofs.ReachLemmas.{finished_without_route}
use Rattle.eddy_meaning.proofs.HopLemmas.{hops_came, hops_below}
use Rattle.eddy_meaning.proofs.FaithfulLemmas.{stamp_of_part}
use Rattle.eddy_meaning.proofs.laws.route_laws.Goals as goal

pub returns : goal.returns
returns c = record {
  routed = λ gives kinds block tables fits marks. route_facts gives kinds block tables fits (IsMarked marks);
  stuck = finished_without_route;
  hops = λ gives kinds block tables fits. hops_came gives kinds block tables fits;
  bound = hops_below;
  stamps = stamp_of_part;
}
