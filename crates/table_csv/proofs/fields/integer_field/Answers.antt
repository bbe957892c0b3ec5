use Rattle.table_csv.proofs.DigitLemmas.{plain-taken, plain-value}
use Rattle.table_csv.proofs.fields.integer_field.Goals as goal

pub returns-in-Some-clause-ok : goal.returns-in-Some-clause-ok
returns-in-Some-clause-ok c = plain-value c.args.text.now c.in-Some.number c.in-Some.ensures.some c.in-Some.ensures.number c.in-Some.ensures.fits

pub returns-in-Some-clause-taken : goal.returns-in-Some-clause-taken
returns-in-Some-clause-taken c =
    plain-taken c.args.rec c.args.field c.args.text.now c.in-Some.number c.in-Some.ensures.some c.in-Some.ensures.canonical c.in-Some.ensures.number
