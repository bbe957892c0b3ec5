use Rattle.std.proofs.Common.{◌∙◌}
use Rattle.sq_value.proofs.WritingLemmas.{pushed_on, last_digits-step}
use Rattle.sq_value.proofs.decimal_writing.+push_last_digits.Goals as goal

pub returns : goal.returns
returns t c =
    pushed_on _ _ _ _ _ _ _ c.in_ok-push_digit.ensures c.push_last_digits.ensures
    (last_digits-step c.args.places c.args.number _ c.if-places-eq0.false (c.from.ensures ∙ c.power_of_ten.ensures.is))
