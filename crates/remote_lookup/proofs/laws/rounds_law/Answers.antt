use Rattle.remote_lookup.proofs.AlikeLemmas.{comes_alike}
use Rattle.remote_lookup.proofs.RoundLemmas.{one_outcome, needed_by_rounds}
use Rattle.remote_lookup.proofs.ExistLemmas.{outcome}
use Rattle.remote_lookup.proofs.GrowLemmas.{asked_grows}
use Rattle.remote_lookup.proofs.laws.rounds_law.Goals as goal

pub returns : goal.returns
returns c = record {
  one = λ gives block tables remotes file known a b h k. one_outcome gives block tables remotes file known a b h k;
  needed = λ gives block tables remotes file keys h. needed_by_rounds gives block tables remotes file keys h;
  grows = λ gives block tables remotes rows known k remote key. asked_grows gives block tables remotes rows known k remote key;
  some = λ gives block tables remotes file. outcome gives block tables remotes file;
  alike = λ gives block tables remotes file other known due same comes. comes_alike gives block tables remotes file other same known due comes;
}
