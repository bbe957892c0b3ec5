use Rattle.sq_token.proofs.LongestLemmas.{are_tokens}
use Rattle.sq_token.proofs.piece.longest_law.Goals as goal

pub returns : goal.returns
returns c = are_tokens
