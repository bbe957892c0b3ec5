use Rattle.engine_cases.specs.Given.{IsModuleOf}
use Rattle.engine_cases.proofs.cases.enter_all.Given as goal

abbrev pub invariant-loop-build : goal.invariant-loop-build
invariant-loop-build l = IsModuleOf l.block l.tables l.group.alias l.stem
