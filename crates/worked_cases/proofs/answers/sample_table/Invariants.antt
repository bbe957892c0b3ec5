use Rattle.std.proofs.Common.{◌≡◌}
use Rattle.worked_cases.specs.Ready.{answer_columns}
use Rattle.worked_cases.proofs.answers.sample_table.Given as goal

abbrev pub invariant-loop-given : goal.invariant-loop-given
invariant-loop-given l = l.table.columns ≡ answer_columns
