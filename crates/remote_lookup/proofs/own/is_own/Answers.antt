use Rattle.remote_lookup.proofs.OwnBits.{own_by_bits}
use Rattle.remote_lookup.proofs.own.is_own.Goals as goal

pub returns : goal.returns
returns c = own_by_bits c.args.conjunct.now c.args.alias c.requires.alias c.requires.span
