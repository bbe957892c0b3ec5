use Rattle.std.proofs.Common.{◌≡◌, true, drop}
use Rattle.std.specs.Str.Parse.{digits_value, digits_value_after}
use Rattle.sq_value.specs.Numeral.{all_digits}
use Rattle.table_csv.proofs.digits.value_of.Given as goal

abbrev pub invariant-loop-digit : goal.invariant-loop-digit
invariant-loop-digit l = record {
  digits : all_digits (drop l.digit-index l.digits) ≡ true → all_digits l.digits ≡ true;
  value : digits_value_after 10 l.value (drop l.digit-index l.digits) ≡ digits_value 10 l.digits;
}
