use Rattle.engine_cases.specs.Given.{IsModuleOf}
use Rattle.engine_cases.proofs.cases.probes_answer.Given as goal

abbrev pub invariant-loop-route : goal.invariant-loop-route
invariant-loop-route l = IsModuleOf l.block l.tables l.alias l.stem
