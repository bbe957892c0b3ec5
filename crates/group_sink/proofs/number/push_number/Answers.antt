use Rattle.std.proofs.Common.{FitsSigned, rules}
use Rattle.std.specs.Int.{w128}
use Rattle.std.proofs.lemmas.Int.{to_z-of_z}
use Rattle.sq_value.proofs.WritingLemmas.{pushed_on, two_pushed}
use Rattle.group_sink.proofs.NumberLemmas.{decimal_text-is}
use Rattle.group_sink.proofs.number.push_number.Goals as goal

pub returns : goal.returns
returns c =
    let fits : FitsSigned w128 c.args.units = search rules in
    pushed_on _ _ _ _ _ _ _
    (two_pushed _ _ _ _ _ c.in_ok-push_sign.ensures c.in_ok-push_whole.ensures)
    c.push_fraction.ensures
    (decimal_text-is record { units = c.args.units; scale = c.args.scale } _ _ _ (to_z-of_z w128 c.args.units fits) c.unsigned_abs-size.ensures.value c.without_digits.ensures)
