use Rattle.std.proofs.Common.{sym}
use Rattle.route_policy.proofs.PieceLaws.{pieces_of-at, pieces_of-none}
use Rattle.route_policy.proofs.script.cut.Goals as goal

pub returns-in-Some-clause-pieces : goal.returns-in-Some-clause-pieces
returns-in-Some-clause-pieces c = pieces_of-at c.args.bytes.now c.in-Some.place (sym c.in-Some.ensures)

pub returns-in-None-clause-pieces : goal.returns-in-None-clause-pieces
returns-in-None-clause-pieces c = pieces_of-none c.args.bytes.now (sym c.in-None.ensures)
