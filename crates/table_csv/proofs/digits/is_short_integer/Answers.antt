use Rattle.std.proofs.Common.{sym, ◌∙◌, arith}
use Rattle.table_csv.proofs.DigitLemmas.{short-canonical}
use Rattle.table_csv.proofs.digits.is_short_integer.Goals as goal

pub returns : goal.returns
returns c = λ e.
    short-canonical c.args.field.now c.begins_plainly.result c.begins_plainly.ensures c.if-not-begins_plainly.false
    (omega (arith, c.if-field-gt-SHORT.false)) (sym c.is_digits.ensures ∙ e)
