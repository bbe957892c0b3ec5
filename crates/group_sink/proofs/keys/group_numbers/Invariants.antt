use Rattle.std.proofs.Common.{◌≡◌, take}
use Rattle.group_sink.specs.Dense.{numbered}
use Rattle.group_sink.specs.Groups.{has_same_keys}
use Rattle.group_sink.specs.Parts.{value_over}
use Rattle.group_sink.proofs.keys.group_numbers.Given as goal

abbrev pub invariant-loop-key : goal.invariant-loop-key
invariant-loop-key l = l.numbers.items ≡ numbered (has_same_keys (value_over l.block l.tables) (take l.key-index l.keys)) l.members
