use Rattle.std.proofs.Common.{sym, ◌∙◌, ap}
use Rattle.sq_value.specs.Numeral as spec
use Rattle.sq_value.proofs.NumeralLemmas.{number_read-Ok, number_read-Err, number_read-NotANumber}
use Rattle.sq_value.proofs.integer.read_int.Goals as goal

pub returns-then-not-is_numeral : goal.returns-then-not-is_numeral
returns-then-not-is_numeral c =
    number_read-NotANumber c.args.text.now (ap spec.is_numeral (sym c.as_bytes.ensures.value) ∙ sym c.is_numeral.ensures ∙ c.if-not-is_numeral.true)

pub returns-in-Ok : goal.returns-in-Ok
returns-in-Ok c =
    number_read-Ok c.args.text.now c.in-Ok.number
    (ap spec.is_numeral (sym c.as_bytes.ensures.value) ∙ sym c.is_numeral.ensures ∙ c.if-not-is_numeral.false) c.in-Ok.ensures.value.0

pub returns-in-Err : goal.returns-in-Err
returns-in-Err c =
    number_read-Err c.args.text.now
    (ap spec.is_numeral (sym c.as_bytes.ensures.value) ∙ sym c.is_numeral.ensures ∙ c.if-not-is_numeral.false) c.in-Err.ensures.value.0
