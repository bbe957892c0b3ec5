use Rattle.std.proofs.Common.{sym, ◌∙◌}
use Rattle.std.specs.Str.Parse.{digits_value_after}
use Rattle.std.proofs.lemmas.List.{at_drop_all}
use Rattle.sq_value.specs.Numeral.{all_digits}
use Rattle.table_csv.proofs.DigitLemmas.{digits-more, value-more}
use Rattle.table_csv.proofs.digits.value_of.Goals as goal

pub loop-digit-preserved : goal.loop-digit-preserved
loop-digit-preserved c =
    let ds = c.args.digits.now in
    let i = c.loop-digit.digit-index in
    record {
      digits = λ rest. c.loop-digit.invariant.digits (digits-more ds i c.loop-digit-test.true c.in-Some.ensures.digit rest);
      value = value-more ds i c.loop-digit.value c.in-Some.next c.loop-digit-test.true c.in-Some.ensures.value ∙ c.loop-digit.invariant.value;
    }

pub returns-clause-digits : goal.returns-clause-digits
returns-clause-digits c = c.loop-digit.invariant.digits (at_drop_all (λ ds. all_digits ds) c.args.digits.now c.loop-digit.digit-index c.loop-digit-test.false)

pub returns-clause-value : goal.returns-clause-value
returns-clause-value c =
    sym (at_drop_all (λ ds. digits_value_after 10 c.loop-digit.value ds) c.args.digits.now c.loop-digit.digit-index c.loop-digit-test.false)
    ∙ c.loop-digit.invariant.value
