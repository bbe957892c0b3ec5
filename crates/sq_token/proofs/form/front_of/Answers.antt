use Rattle.std.proofs.Common.{rules}
use Rattle.sq_token.specs.Form.{front}
use Rattle.sq_token.proofs.form.front_of.Goals as goal

pub returns-then-first-eq-QUOTE-clause-value : goal.returns-then-first-eq-QUOTE-clause-value
unfolding front
returns-then-first-eq-QUOTE-clause-value c = search rules
