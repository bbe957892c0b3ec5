use Rattle.std.proofs.Common.{◌≡◌}
use Rattle.std.specs.String.{string_bytes}
use Rattle.run_answers.specs.Tally as spec
use Rattle.run_answers.proofs.tallying.built_text.Given as goal

abbrev pub invariant-loop-alias : goal.invariant-loop-alias
invariant-loop-alias l = string_bytes l.text ≡ spec.built_text l.alias l.log
