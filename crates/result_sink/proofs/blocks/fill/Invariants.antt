use Rattle.std.proofs.Common.{◌≡◌, take}
use Rattle.std.specs.List.{flat_map}
use Rattle.result_sink.specs.Ready.{record_text}
use Rattle.result_sink.proofs.blocks.fill.Given as goal

abbrev pub invariant-loop-many : goal.invariant-loop-many
invariant-loop-many l = l.text.items ≡ flat_map (record_text l.block l.tables) (take l.many l.combos)
