use Rattle.std.proofs.Common.{◌≡◌, ◌+◌, drop}
use Rattle.std.specs.Prelude.{◌==◌, find}
use Rattle.outside.proofs.memory_sink.choice_at.Given as goal

abbrev pub invariant-loop-failing : goal.invariant-loop-failing
invariant-loop-failing l = find (λ c. c.put == l.made + 1) (drop l.failing-index l.chosen) ≡ find (λ c. c.put == l.made + 1) l.chosen
