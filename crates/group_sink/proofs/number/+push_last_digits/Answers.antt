use Rattle.sq_value.proofs.WritingLemmas.{pushed_on}
use Rattle.group_sink.proofs.NumberLemmas.{last_digits-step}
use Rattle.group_sink.proofs.number.+push_last_digits.Goals as goal

pub returns : goal.returns
returns t c =
    pushed_on _ _ _ _ _ _ _ c.in_ok-push_digit.ensures c.push_last_digits.ensures
    (last_digits-step c.args.places c.args.number _ c.if-places-eq0.false c.without_digits.ensures)
