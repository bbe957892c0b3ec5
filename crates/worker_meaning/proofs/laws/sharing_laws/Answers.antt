use Rattle.worker_meaning.proofs.SharingLemmas.{shared_ended, shared_answered, shared_told}
use Rattle.worker_meaning.proofs.RegroupLemmas.{followed_apart}
use Rattle.worker_meaning.proofs.laws.sharing_laws.Goals as goal

pub returns : goal.returns
returns c = record {
  ended = shared_ended;
  answered = shared_answered;
  told = shared_told;
  apart = followed_apart;
}
