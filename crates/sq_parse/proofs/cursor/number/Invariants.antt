use Rattle.std.proofs.Common.{◌≡◌, min, take}
use Rattle.sq_token.specs.Tok.{decimal}
use Rattle.sq_parse.proofs.cursor.number.Given as goal

abbrev pub invariant-loop-digit : goal.invariant-loop-digit
invariant-loop-digit l = l.number ≡ min (decimal (take l.digit-index l.digits)) 9223372036854775808
