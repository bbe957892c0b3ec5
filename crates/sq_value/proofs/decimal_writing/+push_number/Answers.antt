use Rattle.std.proofs.lemmas.Fmt.{decimal_digit, decimal_step}
use Rattle.sq_value.proofs.WritingLemmas.{pushed_on, pushed_same}
use Rattle.sq_value.proofs.decimal_writing.+push_number.Goals as goal

pub returns-then-number-lt10 : goal.returns-then-number-lt10
returns-then-number-lt10 t c = pushed_same _ _ _ _ _ c.push_digit.ensures (decimal_digit c.args.number c.if-number-lt10.true)

pub returns : goal.returns
returns t c =
    pushed_on _ _ _ _ _ _ _ c.in_ok-push_number.ensures c.push_digit-2.ensures
    (decimal_step c.args.number c.if-number-lt10.false c.ranges.number.fits)
