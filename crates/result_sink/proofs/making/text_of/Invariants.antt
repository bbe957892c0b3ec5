use Rattle.std.proofs.Common.{◌≡◌, take}
use Rattle.std.specs.List.{flat_map}
use Rattle.result_sink.specs.Ready.{record_text}
use Rattle.result_sink.proofs.making.text_of.Given as goal

abbrev pub invariant-loop-combo : goal.invariant-loop-combo
invariant-loop-combo l = l.text.items ≡ flat_map (record_text l.block l.tables) (take l.combo-index l.combos)
