use Rattle.run_base.proofs.ExchangeLemmas.{still_runnable}
use Rattle.run_base.proofs.laws.exchange_law.Goals as goal

pub returns : goal.returns
returns c = λ kinds tables other bound e h. still_runnable kinds tables other e bound h
