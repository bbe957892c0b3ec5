use Rattle.eddy_meaning.proofs.SharedLemmas.{block_log_once, shared_rows, stamp_test}
use Rattle.eddy_meaning.proofs.laws.shared_laws.Goals as goal

pub returns : goal.returns
returns c = record { once = block_log_once; rows = shared_rows; stamps = stamp_test }
