use Rattle.table_csv.proofs.DigitLemmas.{plain-canonical, plain-fits, plain-number, plain-some}
use Rattle.table_csv.proofs.digits.plain_integer.Goals as goal

pub returns-in-Some-clause-some : goal.returns-in-Some-clause-some
returns-in-Some-clause-some c = plain-some c.signed.result c.args.field.now c.begins_plainly.result c.begins_plainly.ensures c.if-not-begins_plainly.false

pub returns-in-Some-clause-canonical : goal.returns-in-Some-clause-canonical
returns-in-Some-clause-canonical c =
    plain-canonical c.signed.result c.args.field.now c.in-Some.size c.begins_plainly.result c.begins_plainly.ensures c.if-not-begins_plainly.false
    c.in-Some.ensures.digits c.in-Some.ensures.value c.signed.ensures.few

pub returns-in-Some-clause-number : goal.returns-in-Some-clause-number
returns-in-Some-clause-number c =
    plain-number c.signed.result c.args.field.now c.in-Some.size c.begins_plainly.result c.begins_plainly.ensures c.if-not-begins_plainly.false
    c.in-Some.ensures.digits c.in-Some.ensures.value c.signed.ensures.same c.signed.ensures.few

pub returns-in-Some-clause-fits : goal.returns-in-Some-clause-fits
returns-in-Some-clause-fits c = plain-fits c.signed.result c.in-Some.size c.signed.ensures.same c.signed.ensures.few
