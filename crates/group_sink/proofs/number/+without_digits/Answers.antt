use Rattle.group_sink.proofs.NumberLemmas.{fewer_digits}
use Rattle.group_sink.proofs.number.+without_digits.Goals as goal

pub returns : goal.returns
returns t c = fewer_digits c.args.number c.args.places _ c.if-places-eq0.false c.without_digits.ensures
