use Rattle.table_csv.proofs.MarkLemmas.{before_some, before_none}
use Rattle.table_csv.proofs.marks.before_mark.Goals as goal

pub returns-clause-some : goal.returns-clause-some
returns-clause-some c = before_some c.strip_suffix.result c.args.mark.now c.args.text.now c.strip_suffix.ensures.cases

pub returns-clause-none : goal.returns-clause-none
returns-clause-none c = before_none c.strip_suffix.result c.args.mark.now c.args.text.now c.strip_suffix.ensures.cases
