use Rattle.sq_value.proofs.DecimalLemmas.{all_digits_value-Some, all_digits_value-None}
use Rattle.sq_value.proofs.decimal_reading.all_digits_value.Goals as goal

pub returns-in-Some : goal.returns-in-Some
returns-in-Some c =
    all_digits_value-Some c.args.whole.now c.args.fraction.now c.in-Some.number c.value_after-in-Some.result c.in-Some.ensures.1
    c.value_after-in-Some.ensures

pub returns-in-None : goal.returns-in-None
returns-in-None c = all_digits_value-None c.args.whole.now c.args.fraction.now c.in-None.ensures
