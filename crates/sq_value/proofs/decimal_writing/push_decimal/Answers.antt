use Rattle.std.proofs.Common.{◌∙◌, FitsSigned, w64, rules}
use Rattle.std.proofs.lemmas.Int.{to_z-of_z}
use Rattle.sq_value.proofs.WritingLemmas.{pushed_on, two_pushed, decimal_text-is}
use Rattle.sq_value.proofs.decimal_writing.push_decimal.Goals as goal

pub returns : goal.returns
returns c =
    let fits : FitsSigned w64 c.args.number.units = search rules in
    pushed_on _ _ _ _ _ _ _
    (two_pushed _ _ _ _ _ c.in_ok-push_sign.ensures c.in_ok-push_number.ensures)
    c.push_fraction.ensures
    (decimal_text-is c.args.number _ _ _ (to_z-of_z w64 c.args.number.units fits) c.unsigned_abs-size.ensures.value (c.from.ensures ∙ c.power_of_ten.ensures.is))
