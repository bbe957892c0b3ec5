use Rattle.route_policy.proofs.TextLaws.{script_laws}
use Rattle.route_policy.proofs.script.script_law.Goals as goal

pub returns : goal.returns
returns c = script_laws
