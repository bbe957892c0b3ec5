use Rattle.sq_parse.proofs.OneReading.{one_reading}
use Rattle.sq_parse.proofs.parser.one_reading.Goals as goal

pub returns : goal.returns
returns c = one_reading
