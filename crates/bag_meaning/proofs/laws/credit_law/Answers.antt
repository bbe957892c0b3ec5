use Rattle.bag_meaning.proofs.CreditLemmas.{IsPermutation-credits_of_whole}
use Rattle.bag_meaning.proofs.laws.credit_law.Goals as goal

pub returns : goal.returns
returns c = IsPermutation-credits_of_whole
