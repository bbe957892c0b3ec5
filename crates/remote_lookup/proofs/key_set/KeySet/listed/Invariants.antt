use Rattle.std.proofs.Common.{◌≡◌, ◌++◌}
use Rattle.remote_lookup.proofs.key_set.KeySet.listed.Given as goal

abbrev pub invariant-loop-key : goal.invariant-loop-key
invariant-loop-key l = l.keys.items ++ l.key-iterator ≡ l.initial.key-iterator
