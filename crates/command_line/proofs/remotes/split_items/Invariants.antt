use Rattle.std.proofs.Common.{◌≡◌, ◌++◌, suc, length}
use Rattle.std.specs.Prelude.{map, option_map}
use Rattle.std.specs.List.{slice_split}
use Rattle.std.specs.Option.{option_map_or}
use Rattle.command_line.specs.Accesses.{is_comma, items_in}
use Rattle.command_line.specs.Remotes.{remote_of_item}
use Rattle.command_line.proofs.remotes.split_items.Given as goal

abbrev pub invariant-loop-left : goal.invariant-loop-left
invariant-loop-left l =
    l.remotes.items ++ map remote_of_item (items_in (option_map (λ t. t.now) l.left)) ≡ map remote_of_item (slice_split is_comma l.fn.text)

abbrev pub decreases-loop-left : goal.decreases-loop-left
decreases-loop-left l = option_map_or (λ t. suc (length t.now)) l.left 0
