use Rattle.eddy_meaning.specs.Faithful.{IsSound}
use Rattle.engine_cases.proofs.tuples.tuple_of.Given as goal

abbrev pub invariant-loop-word : goal.invariant-loop-word
invariant-loop-word l = IsSound l.block l.tables l.tuple
