use Rattle.std.proofs.Common.{◌≡◌, ◌<◌, ◌^◌, drop}
use Rattle.std.specs.Prelude.{IsTrue}
use Rattle.std.specs.Str.Parse.{digits_value_after}
use Rattle.sq_value.specs.Numeral.{all_digits}
use Rattle.sq_value.proofs.decimal_reading.value_after.Given as goal

abbrev pub invariant-loop-digit : goal.invariant-loop-digit
invariant-loop-digit l = record {
  value : digits_value_after 10 l.value (drop l.digit-index l.digits) ≡ digits_value_after 10 l.start l.digits;
  digits : IsTrue (all_digits (drop l.digit-index l.digits));
  small : l.value < 2 ^ 64;
}
