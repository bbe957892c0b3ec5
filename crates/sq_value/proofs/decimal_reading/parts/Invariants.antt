use Rattle.std.proofs.Common.{◌≡◌, ◌++◌, take, drop}
use Rattle.sq_value.specs.Decimal.{before_point, behind_point}
use Rattle.sq_value.proofs.decimal_reading.parts.Given as goal

abbrev pub invariant-loop-place : goal.invariant-loop-place
invariant-loop-place l = record {
  before : before_point l.digits ≡ take l.place l.digits ++ before_point (drop l.place l.digits);
  behind : behind_point l.digits ≡ behind_point (drop l.place l.digits);
}
