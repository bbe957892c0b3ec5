use Rattle.sq_token.proofs.FormLemmas.{symbol_less}
use Rattle.sq_token.proofs.form.symbol.Goals as goal

pub returns-in-60-clause-value : goal.returns-in-60-clause-value
returns-in-60-clause-value c = rw c.in-60.is (symbol_less c.args.next c.if-next-eq62.either)
