use Rattle.std.proofs.Common.{◌≡◌, sym, ◌∙◌, arith}
use Rattle.std.specs.Str.Parse.{digits_value_after}
use Rattle.std.proofs.lemmas.List.{at_drop_all}
use Rattle.sq_value.proofs.DecimalLemmas.{value_after-large}
use Rattle.sq_value.proofs.decimal_reading.value_after.Goals as goal

pub returns-in-None : goal.returns-in-None
returns-in-None c =
    value_after-large _ c.args.digits.now c.loop-digit.digit-index c.loop-digit.value c.loop-digit-test.true c.loop-digit.invariant.value
    c.in-None.ensures

pub returns : goal.returns
returns c =
    let all : c.loop-digit.value ≡ digits_value_after 10 c.args.start c.args.digits.now =
    sym (at_drop_all (digits_value_after 10 c.loop-digit.value) c.args.digits.now c.loop-digit.digit-index c.loop-digit-test.false)
    ∙ c.loop-digit.invariant.value in
    (omega (arith, all, c.loop-digit.invariant.small), all)
