use Rattle.std.proofs.Common.{rules}
use Rattle.sq_value.specs.Decimal.{decimal_read}
use Rattle.sq_value.proofs.decimal_reading.read_decimal.Goals as goal

pub returns-clause-number : goal.returns-clause-number
unfolding decimal_read
returns-clause-number c = search rules
