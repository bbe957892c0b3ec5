use Rattle.eddy_meaning.proofs.OwedLemmas.{owed_at-append, owed_at-built, IsPermutation-probe}
use Rattle.eddy_meaning.proofs.TruthLemmas.{owed_at-untrue, owed_at-finished}
use Rattle.eddy_meaning.proofs.laws.owed_laws.Goals as goal

pub returns : goal.returns
returns c = record {
  behind = owed_at-append;
  built = owed_at-built;
  untrue = λ gives kinds block tables fits. owed_at-untrue gives kinds block tables fits;
  shared = IsPermutation-probe;
  finished = λ gives kinds block tables fits. owed_at-finished gives kinds block tables fits;
}
