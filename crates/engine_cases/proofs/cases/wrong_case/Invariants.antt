use Rattle.engine_cases.specs.Given.{IsModuleOf}
use Rattle.engine_cases.proofs.cases.wrong_case.Given as goal

abbrev pub invariant-loop-line : goal.invariant-loop-line
invariant-loop-line l = IsModuleOf l.block l.tables l.group.alias l.stem
